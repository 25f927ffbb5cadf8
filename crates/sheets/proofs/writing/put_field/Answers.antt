-- `sheets::writing::put_field` meets its contract. Assumes nothing.
use Rattle.std.proofs.Common.{refl, [], ◌∷◌}
use Rattle.rules.specs.Sheet.{decimal}
use Rattle.rules.proofs.Put.{put_then}
use Rattle.sheets.proofs.writing.put_field.Goals as goal

pub returns-clause-bytes : goal.returns-clause-bytes
returns-clause-bytes c =
    let a = c.args in
    let put = c.put_number-end.ensures in
    put_then a.at _ (decimal a.x) (a.stop ∷ []) a.buffer.now put.behind put.bytes refl
