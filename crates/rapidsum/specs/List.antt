-- A list of printed lines, and the entries that are read back from it.
use Rattle.std.specs.Prelude.{ℕ, ◌≡◌, ⊤, false, List, [], ◌∷◌, ◌++◌, Result, IfOk}
use Rattle.rapidsum.specs.Line.{carried, sum_of}
use Rattle.rapidsum.specs.Entry.{Fits, Names}
use Rattle.rapidsum.specs.declared.algorithm.Algorithm.{Algorithm}
use Rattle.rapidsum.specs.declared.entry.Entry.{Entry}
use Rattle.rapidsum.specs.declared.line.Layout.{Layout}
use Rattle.rapidsum.specs.declared.list.List.{List as ReadList}
use Rattle.rapidsum.specs.declared.problem.Problem.{Problem}

-- a line to print: its layout, its version and seed, its hash and its name
pub record Printed : Type 0 where
  pub layout : Layout
  pub algorithm : Algorithm
  pub hash : ℕ
  pub name : List ℕ

-- all hashes and seed words are numbers of 64 bits
abbrev pub AllFit : List Printed → Type 0
AllFit [] = ⊤
AllFit (line ∷ lines) = Fits line.algorithm line.hash × AllFit lines

-- the text of a list: its printed lines, each with its newline
abbrev pub list_of : List Printed → List ℕ
list_of [] = []
list_of (line ∷ lines) = sum_of line.layout false line.algorithm line.hash line.name ++ list_of lines

-- the entries are those of the printed lines, in their order
abbrev pub AreEntries : {A : Type 0} → List (Entry A) → List Printed → Type 0
AreEntries [] [] = ⊤
AreEntries [] (line ∷ lines) = ⊥
AreEntries (entry ∷ entries) [] = ⊥
AreEntries (entry ∷ entries) (line ∷ lines) =
    Names entry (carried line.layout line.algorithm) line.hash line.name × AreEntries entries lines

-- a printed list is read back whole: each line is its entry, and none is malformed
abbrev pub ReadsBack : List ℕ → Result ReadList Problem → Type 0
ReadsBack text result = (lines : List Printed) → AllFit lines → text ≡ list_of lines
    → IfOk result (λ list. (list.malformed.items ≡ []) × AreEntries list.entries.items lines)
