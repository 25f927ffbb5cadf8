-- Request 7, "Convert one to two with first releases of 0, and back": the verdict, what is told and what is left in the buffer.
-- Assumes nothing. Bytes are lists of numbers below 256.
use Rattle.std.specs.Prelude.{ℕ, Bool, true, false, List, [], ◌∷◌, length, Option, Some, None}
use Rattle.rules.specs.declared.Form.{Form}
use Rattle.rules.specs.declared.Form.TheVariants.{One, Two}
use Rattle.rules.specs.declared.StoredTable.{StoredTable}
use Rattle.rules.specs.Answers.{Written, Verdict}
use Rattle.rules.specs.declared.Refusal.TheVariants.{WrongMark}
use Rattle.rules.specs.Refusals.{must, first_of}
use Rattle.rules.specs.StoredTable.{form_of, size_verdict, stored_of, read_verdict}
use Rattle.rules.specs.Writing.{bytes_of, write_verdict, told_of, left_of}

abbrev pub other_form : Option Form → Option Form
other_form None = None
other_form (Some One) = (Some Two)
other_form (Some Two) = (Some One)

abbrev pub same_form : Option Form → Option Form → Bool
same_form None g = false
same_form (Some One) None = false
same_form (Some One) (Some One) = true
same_form (Some One) (Some Two) = false
same_form (Some Two) None = false
same_form (Some Two) (Some One) = false
same_form (Some Two) (Some Two) = true

-- what the bytes hold, to be written in the other form; form one reads with first releases of 0
abbrev pub converted_from : Option Form → List ℕ → StoredTable
converted_from from s = let stored = stored_of s in record { form = other_form from; table = stored.table; firsts = stored.firsts }

-- 1 and 2; 3, "when converting, not that of the form converted from"; the rest as in reading; then as in writing: 18 going back, then 16
abbrev pub convert_verdict : Option Form → List ℕ → ℕ → Verdict
convert_verdict from s size =
    first_of (
    size_verdict s
    ∷ must (same_form from (form_of s)) WrongMark 0
    ∷ read_verdict s
    ∷ write_verdict (converted_from from s) size
    ∷ [])

abbrev pub converted_of : Option Form → List ℕ → ℕ → Written
converted_of from s size = told_of (convert_verdict from s size) (bytes_of (converted_from from s))

-- "a refused conversion leaves its output untouched"
abbrev pub converted_after : Option Form → List ℕ → List ℕ → List ℕ
converted_after from s buffer = left_of (convert_verdict from s (length buffer)) (bytes_of (converted_from from s)) buffer
