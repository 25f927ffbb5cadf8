-- What a step answers, by whether the state is acceptable. Assumes nothing.
use Rattle.std.proofs.Common.{◌≡◌, ℕ, Bool, true, false, not, List, Ok, Err, refl, arith}
use Rattle.rules.specs.declared.RunRow.{RunRow}
use Rattle.rules.specs.declared.Run.{Run}
use Rattle.rules.specs.declared.Unstepped.{Unstepped}
use Rattle.rules.specs.declared.Refusal.TheVariants.{NotRunState}
use Rattle.rules.specs.Answers.{Verdict, Accepted, Refused, refused_at, checked, kept_or, step_outcome}
use Rattle.rules.specs.RunState.{in_hold, any, used_rows, acceptable}
use Rattle.rules.specs.Run.{tick, slot_of, stepped_of, slots_of, advanced_of}
use Rattle.running.proofs.ThreeSteps.{one_pass}
use Rattle.running.proofs.Turns.{rest}

-- ── One slot ──

module _ (run : Run) (stolen : Bool) where
  pub none_stepped : acceptable run ≡ false → Err (record { refused = refused_at NotRunState 0; run = run }) ≡ step_outcome (stepped_of run stolen)
  unfolding stepped_of
  none_stepped h = simp h

  -- accepted, and the slot done
  pub all_stepped : (holding : Bool) (after : ℕ) (rows : List RunRow) → acceptable run ≡ true → any in_hold (used_rows run) ≡ holding → after ≡ tick run.clock → rows ≡ rest run.clock holding (not stolen) run.count run.rows → Ok (record { clock = after; count = run.count; rows = rows }) ≡ step_outcome (stepped_of run stolen)
  unfolding stepped_of slot_of
  all_stepped holding after rows h w n e = rw (h, n, e, one_pass run.clock holding stolen (used_rows run) w) refl

-- in place: what the Result of an answer says of its run and its verdict
pub done_said : (v : Verdict) (run next : Run) → Ok next ≡ kept_or v run → (next ≡ run) × (Ok tt ≡ checked v)
done_said Accepted run next e = (cc, refl)
done_said (Refused r k) run next e = let z : ◌≡◌ {A = ℕ} 0 1 = cc in absurd (omega arith)

pub kept_said : (v : Verdict) (run : Run) (u : Unstepped) → Err u ≡ kept_or v run → (u.run ≡ run) × (Err u.refused ≡ checked v)
kept_said Accepted run u e = let z : ◌≡◌ {A = ℕ} 0 1 = cc in absurd (omega arith)
kept_said (Refused r k) run u e = (cc, cc)

-- ── Many slots ──

pub none_advanced : (run : Run) (stolen : List ℕ) → acceptable run ≡ false → Err (record { refused = refused_at NotRunState 0; run = run }) ≡ step_outcome (advanced_of run stolen)
unfolding advanced_of
none_advanced run stolen h = simp h

pub all_advanced : (run : Run) (stolen : List ℕ) → acceptable run ≡ true → Ok (slots_of run stolen) ≡ step_outcome (advanced_of run stolen)
unfolding advanced_of
all_advanced run stolen h = simp h
