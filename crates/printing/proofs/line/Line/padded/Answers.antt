-- `printing::line::Line::padded` meets its contract. Assumes nothing.
use Rattle.std.proofs.Common.{◌≡◌, ℕ, ◌-◌, length, sym, ap, ◌∙◌}
use Rattle.rules.specs.Sheet.{decimal}
use Rattle.printing.specs.declared.line.Line.{Line}
use Rattle.printing.specs.Lines.{with_bytes, blanks}
use Rattle.printing.proofs.Places.{put_then, fewest_decimal}
use Rattle.printing.proofs.line.Line.padded.Goals as goal

pub returns : goal.returns
returns c =
    let a = c.args in
    let line = a.self.now in
    let d = c.decimal-k in
    let e = d.ensures.digits ∙ fewest_decimal d.result a.n d.ensures.len in
    let few : length (decimal a.n) ≡ d.result = ap length (sym e) ∙ sym d.ensures.in_bounds.1 in
    let g = c.saturating_sub.ensures ∙ ap (λ (k : ℕ). a.width - k) (sym few) in
    let b = rw g at c.blanks.ensures in
    let t = rw e at c.text.ensures in
    t ∙ ap (λ (l : Line). with_bytes l (decimal a.n)) b ∙ put_then line (blanks (a.width - length (decimal a.n))) (decimal a.n)
