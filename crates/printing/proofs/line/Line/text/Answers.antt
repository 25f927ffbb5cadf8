-- `printing::line::Line::text` meets its contract. Assumes nothing.
use Rattle.std.proofs.Common.{[], ◌∷◌, get_or, ap, ◌∙◌, rules}
use Rattle.printing.specs.declared.line.Line.{Line}
use Rattle.printing.specs.Lines.{with_bytes}
use Rattle.printing.proofs.Places.{text_on}
use Rattle.printing.proofs.line.Line.text.Goals as goal

pub loop-byte-preserved : goal.loop-byte-preserved
loop-byte-preserved c =
    let text = c.args.text.now in
    let l = c.loop-byte in
    c.put.ensures ∙ ap (λ (line : Line). with_bytes line (get_or text l.byte-index 0 ∷ [])) l.invariant ∙ text_on c.args.self.now l.byte-index text (search rules)
