-- The checks that a conversion makes before it reads. Assumes nothing. The contract of a private function behind `convert` cites it; its own contract cites
-- `convert_verdict` of the rules.
use Rattle.std.specs.Prelude.{ℕ, List, [], ◌∷◌, Option}
use Rattle.rules.specs.declared.Form.{Form}
use Rattle.rules.specs.declared.Refusal.TheVariants.{WrongMark}
use Rattle.rules.specs.Answers.{Verdict}
use Rattle.rules.specs.Refusals.{must, first_of}
use Rattle.rules.specs.StoredTable.{form_of, size_verdict}
use Rattle.rules.specs.Converting.{same_form}

-- 1 and 2; 3, "when converting, not that of the form converted from"
abbrev pub from_verdict : Option Form → List ℕ → Verdict
from_verdict from s = first_of (size_verdict s ∷ must (same_form from (form_of s)) WrongMark 0 ∷ [])
