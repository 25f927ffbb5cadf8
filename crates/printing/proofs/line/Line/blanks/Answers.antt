-- `printing::line::Line::blanks` meets its contract. Assumes nothing.
use Rattle.std.proofs.Common.{[], ◌∷◌, ap, ◌∙◌}
use Rattle.printing.specs.declared.line.Line.{Line}
use Rattle.printing.specs.Lines.{with_bytes}
use Rattle.printing.proofs.Places.{blank_on}
use Rattle.printing.proofs.line.Line.blanks.Goals as goal

pub loop-preserved : goal.loop-preserved
loop-preserved c =
    let l = c.loop in
    c.put.ensures ∙ ap (λ (line : Line). with_bytes line (32 ∷ [])) l.invariant ∙ blank_on c.args.self.now l.counter
