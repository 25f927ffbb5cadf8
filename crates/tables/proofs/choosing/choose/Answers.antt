-- `tables::choosing::choose` meets its contract: the chosen part lies within the bytes it is of. Assumes nothing.
use Rattle.std.proofs.Common.{◌≡◌, refl, rules, arith, length}
use Rattle.std.proofs.Math.Nat.{add-sub_cancel_left}
use Rattle.rules.proofs.Trailer.{chosen_within}
use Rattle.tables.proofs.choosing.choose.Goals as goal
use Rattle.tables.proofs.choosing.choose.Goals.{then-part, else-part}

pub overflow_add-result : goal.overflow_add-result
overflow_add-result c = let w = chosen_within c.args.site.now c.args.factory.now in let e = c.chosen_part-part.ensures in omega (arith, (rw (← e) at w).small)

pub slice_bounds-result-end : goal.slice_bounds-result-end
slice_bounds-result-end c =
    let w = rw (← c.chosen_part-part.ensures) at (chosen_within c.args.site.now c.args.factory.now) in
    elim c.if-part.branch [
      | then-part b ↦ let l : length c.if-part.bytes.now ≡ length c.args.site.now = rw b.bytes-is refl in omega (arith, rw b.if-part.true at w.inside)
      | else-part b ↦ let l : length c.if-part.bytes.now ≡ length c.args.factory.now = rw b.bytes-is refl in omega (arith, rw b.if-part.false at w.inside)
    ]

pub returns : goal.returns
returns c =
    elim c.if-part.branch [
      | then-part b ↦ rw (← c.chosen_part-part.ensures, b.if-part.true, b.bytes-is) (record { block = refl; offset = search rules; bytes = rw add-sub_cancel_left refl })
      | else-part b ↦ rw (← c.chosen_part-part.ensures, b.if-part.false, b.bytes-is) (record { block = refl; offset = search rules; bytes = rw add-sub_cancel_left refl })
    ]
