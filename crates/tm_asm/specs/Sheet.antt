-- Labelled code: the words that it will have (this project).
use Rattle.std.specs.Prelude.{◌≡◌, ℕ, ◌+◌, ◌-◌, ◌*◌, ◌<◌, ◌≤◌, ◌&&◌, nat_le, List, [], ◌∷◌, ◌++◌, Option}
use Rattle.std.specs.Prelude.{Some, None, slice_get, if◌then◌else◌, ℤ, pos, negsuc, int_le, Bool, true, false}
use Rattle.tm_table.specs.declared.instr.Op.{Op}
use Rattle.tm_table.specs.declared.instr.Op.TheVariants.{Jal}
use Rattle.tm_table.specs.declared.instr.Instr.{Instr}
use Rattle.tm_table.specs.Ops.{is_branch}
use Rattle.tm_table.specs.Words.{Fits, word_of}
use Rattle.tm_asm.specs.declared.code.Item.{Item}
use Rattle.tm_asm.specs.declared.fault.CodeFault.{CodeFault}
use Rattle.tm_asm.specs.declared.fault.CodeFault.TheVariants.{FarBranch, NoMemory}
use Rattle.tm_asm.specs.declared.code.Item.TheVariants.{Plain, Branch, Jump, Word}

-- the words put so far, and the places of the labels that have one, in words from the first
pub record Sheet : Type 0 where
  pub items : List Item
  pub places : List (Option ℕ)

-- the place that was looked up; 0 where there is none
abbrev pub placed : Option (Option ℕ) → ℕ
placed None = 0
placed (Some None) = 0
placed (Some (Some p)) = p

-- the place of a label
abbrev pub place_of : List (Option ℕ) → ℕ → ℕ
place_of ps label = placed (slice_get ps label)

-- from one word to another, in bytes
abbrev pub distance : ℕ → ℕ → ℤ
distance from to = if nat_le from to then pos (4 * (to - from)) else negsuc (4 * (from - to) - 1)

-- a branch and a jump by an offset
abbrev pub branching : Op → ℕ → ℕ → ℤ → Instr
branching op rs1 rs2 offset = record { op = op; rd = 0; rs1 = rs1; rs2 = rs2; imm = offset }

-- a jump by an offset, with the register of its link (RV64I 2.1)
abbrev pub jumping : ℕ → ℤ → Instr
jumping rd offset = record { op = Jal; rd = rd; rs1 = 0; rs2 = 0; imm = offset }

-- the word at a place, where the labels have these places
abbrev pub worded : List (Option ℕ) → ℕ → Item → ℕ
worded ps at (Plain i) = word_of i
worded ps at (Branch op rs1 rs2 label) = word_of (branching op rs1 rs2 (distance at (place_of ps label)))
worded ps at (Jump rd label) = word_of (jumping rd (distance at (place_of ps label)))
worded ps at (Word w) = w

-- the words from a place on
abbrev pub words_in : List (Option ℕ) → ℕ → List Item → List ℕ
words_in ps at [] = []
words_in ps at (x ∷ xs) = worded ps at x ∷ words_in ps (at + 1) xs

-- ---- what may be put

-- what is asked of a word that is put
abbrev pub IsGood : Item → Type 0
IsGood (Plain i) = Fits i
IsGood (Branch op rs1 rs2 label) = (is_branch op ≡ true) × (rs1 < 32) × (rs2 < 32)
IsGood (Jump rd label) = rd < 32
IsGood (Word w) = Unit {0}

-- all of them
abbrev pub AllGood : List Item → Type 0
AllGood [] = Unit {0}
AllGood (x ∷ xs) = IsGood x × AllGood xs

-- the label that a word leads to has a place
abbrev pub HasPlace : List (Option ℕ) → Item → Type 0
HasPlace ps (Plain i) = Unit {0}
HasPlace ps (Branch op rs1 rs2 label) = (p : ℕ) × (slice_get ps label ≡ Some (Some p))
HasPlace ps (Jump rd label) = (p : ℕ) × (slice_get ps label ≡ Some (Some p))
HasPlace ps (Word w) = Unit {0}

-- every label that a branch or jump uses has its place
abbrev pub AllPlaced : List (Option ℕ) → List Item → Type 0
AllPlaced ps [] = Unit {0}
AllPlaced ps (x ∷ xs) = HasPlace ps x × AllPlaced ps xs

-- ---- reach

-- whether an offset is in a branch's range (RV64I 2.1)
abbrev pub branch_reaches : ℤ → Bool
branch_reaches d = int_le (negsuc 4095) d && int_le d (pos 4094)

-- whether an offset is in a jump's range (RV64I 2.1)
abbrev pub jump_reaches : ℤ → Bool
jump_reaches d = int_le (negsuc 1048575) d && int_le d (pos 1048574)

-- whether the word at a place reaches its label
abbrev pub reaches : List (Option ℕ) → ℕ → Item → Bool
reaches ps at (Plain i) = true
reaches ps at (Branch op rs1 rs2 label) = branch_reaches (distance at (place_of ps label))
reaches ps at (Jump rd label) = jump_reaches (distance at (place_of ps label))
reaches ps at (Word w) = true

-- the word leads to this place
abbrev pub LeadsTo : List (Option ℕ) → Item → ℕ → Type 0
LeadsTo ps (Plain i) to = ⊥
LeadsTo ps (Branch op rs1 rs2 label) to = place_of ps label ≡ to
LeadsTo ps (Jump rd label) to = place_of ps label ≡ to
LeadsTo ps (Word w) to = ⊥

-- Each word of code reaches its label.
abbrev pub AllReach : Sheet → Type 0
AllReach s = (k : ℕ) (x : Item) → slice_get s.items k ≡ Some x → reaches s.places k x ≡ true

-- The word at `from` can't reach the word at `to`, to which it leads, and each word before it reaches its label.
pub record IsFirstFar (s : Sheet) (from to : ℕ) : Type 0 where
  pub item : Item
  pub there : slice_get s.items from ≡ Some item
  pub leads : LeadsTo s.places item to
  pub far : reaches s.places from item ≡ false
  pub first : (k : ℕ) (x : Item) → k < from → slice_get s.items k ≡ Some x → reaches s.places k x ≡ true

-- what code without words was refused for: a word that can't reach its label, with no such word before it, or want of
-- memory
abbrev pub IsFar : Sheet → CodeFault → Type 0
IsFar s (FarBranch from to) = IsFirstFar s from to
IsFar s NoMemory = Unit {0}

-- the same of one word at a place
abbrev pub IsFarAt : List (Option ℕ) → ℕ → Item → CodeFault → Type 0
IsFarAt ps at x (FarBranch from to) = (from ≡ at) × LeadsTo ps x to × (reaches ps at x ≡ false)
IsFarAt ps at x NoMemory = ⊥

-- fewer than so many words to go on, or at most so many to go back
abbrev pub IsWithin : ℕ → ℕ → ℕ → Type 0
IsWithin reach from to = (to < from + reach) × (from ≤ to + reach)

-- ---- what a call appends: plain instructions

-- instructions as words to come
abbrev pub plain : List Instr → List Item
plain [] = []
plain (i ∷ is) = Plain i ∷ plain is

-- code with these instructions behind its words, and its labels as they were
unfoldable pub puts : Sheet → List Instr → Sheet
puts s is = record { items = s.items ++ plain is; places = s.places }

-- each instruction fits into a word
abbrev pub AllFit : List Instr → Type 0
AllFit [] = Unit {0}
AllFit (i ∷ is) = Fits i × AllFit is
