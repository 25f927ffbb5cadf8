-- `sheets::writing::put_line` meets its contract: four fields and the last byte, one behind the other. Assumes nothing.
use Rattle.std.proofs.Common.{refl, [], ◌∷◌, ◌++◌, arith}
use Rattle.rules.specs.Sheet.{field_bytes}
use Rattle.rules.proofs.Put.{put_then}
use Rattle.sheets.proofs.Printed.{line_length, field_behind}
use Rattle.sheets.proofs.writing.put_line.Goals as goal

pub returns : goal.returns
returns c =
    let a = c.args in
    let r = a.row in
    let one = rw c.from.ensures at c.put_field-second.ensures in
    let two = c.put_field-third.ensures in
    let three = c.put_field-fourth.ensures in
    let four = c.put_field-end.ensures in
    let behind₃ = put_then _ _ (field_bytes r.hold 13) (10 ∷ []) _ (field_behind _ r.hold 13 four.behind) four.bytes refl in
    let behind₂ = put_then _ _ (field_bytes r.validity 44) (field_bytes r.hold 13 ++ (10 ∷ [])) _ (field_behind _ r.validity 44 three.behind) three.bytes behind₃ in
    let behind₁ = put_then _ _ (field_bytes r.cost 44) (field_bytes r.validity 44 ++ (field_bytes r.hold 13 ++ (10 ∷ []))) _ (field_behind _ r.cost 44 two.behind) two.bytes behind₂ in
    record {
      bytes = put_then a.at _ (field_bytes r.id 44) (field_bytes r.cost 44 ++ (field_bytes r.validity 44 ++ (field_bytes r.hold 13 ++ (10 ∷ [])))) a.buffer.now (field_behind _ r.id 44 one.behind) one.bytes behind₁;
      behind = omega (arith, line_length r, one.behind, two.behind, three.behind, four.behind);
    }
