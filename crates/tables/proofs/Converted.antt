-- A conversion's verdict where the bytes are of the form converted from and read, and what is written then. Assumes nothing.
use Rattle.std.proofs.Common.{◌≡◌, refl, sym, ap, ap₂, ◌∙◌, ℕ, List, length, Option, Result}
use Rattle.rules.specs.declared.Form.{Form}
use Rattle.rules.specs.declared.Refusal.TheVariants.{WrongMark}
use Rattle.rules.specs.declared.Refused as at_place
use Rattle.rules.specs.declared.StoredTable.{StoredTable}
use Rattle.rules.specs.Answers.{Verdict, Accepted, Refused, written_outcome}
use Rattle.rules.specs.Refusals.{must, first_refusal}
use Rattle.rules.specs.StoredTable.{form_of, size_verdict, read_verdict}
use Rattle.rules.specs.Writing.{bytes_of, write_verdict, told_of, left_of, written_of, buffer_after}
use Rattle.rules.specs.Converting.{same_form, converted_from, convert_verdict, converted_of, converted_after}
use Rattle.rules.proofs.Checks.{refused_not}
use Rattle.tables.specs.Converted.{from_verdict}

-- two checks passed, and a later one behind them
later_counts : (v w later : Verdict) → first_refusal v (first_refusal w Accepted) ≡ Accepted → first_refusal v (first_refusal w (first_refusal later Accepted)) ≡ later
later_counts Accepted Accepted Accepted e = refl
later_counts Accepted Accepted (Refused r k) e = refl
later_counts Accepted (Refused q j) later e = absurd (refused_not e)
later_counts (Refused q j) w later e = absurd (refused_not e)

module _ (from : Option Form) (s : List ℕ) (passed : from_verdict from s ≡ Accepted) (read : read_verdict s ≡ Accepted) {stored : StoredTable} (same : stored ≡ converted_from from s) where
  rest : (size : ℕ) → convert_verdict from s size ≡ write_verdict stored size
  rest size =
      let marked = must (same_form from (form_of s)) WrongMark 0 in
      let written = write_verdict (converted_from from s) size in
      ap (λ (v : Verdict). first_refusal (size_verdict s) (first_refusal marked (first_refusal v (first_refusal written Accepted)))) read
      ∙ (later_counts (size_verdict s) marked written passed ∙ ap (λ (t : StoredTable). write_verdict t size) (sym same))

  pub told : (size : ℕ) {answer : Result ℕ at_place.Refused} → answer ≡ written_outcome (written_of stored size) → answer ≡ written_outcome (converted_of from s size)
  told size e = e ∙ ap₂ (λ (v : Verdict) (bytes : List ℕ). written_outcome (told_of v bytes)) (sym (rest size)) (ap bytes_of same)

  pub left : (buffer : List ℕ) {after : List ℕ} → after ≡ buffer_after stored buffer → after ≡ converted_after from s buffer
  left buffer e = e ∙ ap₂ (λ (v : Verdict) (bytes : List ℕ). left_of v bytes buffer) (sym (rest (length buffer))) (ap bytes_of same)
