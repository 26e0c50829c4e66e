-- What a call changes at a desk and at a sink (this project's own).
use Rattle.std.specs.Prelude.{◌≡◌, ℕ, Bool, IsTrue, List, ◌++◌, take}
use Rattle.tm_desk.specs.Causes.{Files, Rose, OthersStay}
use Rattle.tm_top_owed.specs.Texts.{no_memory}

-- a desk before and after a call
pub record DeskChange : Type 0 where
  pub tells : Bool
  pub held : Files
  pub holds : Files
  pub faults : ℕ
  pub faults_after : ℕ

-- the change of a desk, of its ghost members and its two values
abbrev pub desk_change : {D : Type 0} → Bool → (D → Files) → (D → ℕ) → D → D → DeskChange
desk_change tells held faults old new = record {
  tells = tells;
  held = held old;
  holds = held new;
  faults = faults old;
  faults_after = faults new;
}

-- a sink before and after a call
pub record SinkChange : Type 0 where
  pub tells : Bool
  pub taken : List ℕ
  pub taken_after : List ℕ
  pub faults : ℕ
  pub faults_after : ℕ

-- the change of a sink, of its ghost members and its two values
abbrev pub sink_change : {S : Type 0} → Bool → (S → List ℕ) → (S → ℕ) → S → S → SinkChange
sink_change tells taken faults old new = record {
  tells = tells;
  taken = taken old;
  taken_after = taken new;
  faults = faults old;
  faults_after = faults new;
}

-- the desk's count rose
abbrev pub DeskFailed : DeskChange → Type 0
DeskFailed desk = Rose desk.faults desk.faults_after

-- the sink's count rose
abbrev pub SinkFailed : SinkChange → Type 0
SinkFailed sink = Rose sink.faults sink.faults_after

-- all files are as at entry
abbrev pub FilesStay : DeskChange → Type 0
FilesStay desk = IsTrue desk.tells → desk.holds ≡ desk.held

-- all files but this one are as at entry
abbrev pub OtherFilesStay : DeskChange → List ℕ → Type 0
OtherFilesStay desk name = IsTrue desk.tells → OthersStay desk.held desk.holds name

-- the sink took nothing
abbrev pub Silent : SinkChange → Type 0
Silent sink = IsTrue sink.tells → sink.taken_after ≡ sink.taken

-- the sink took exactly this text
abbrev pub Took : SinkChange → List ℕ → Type 0
Took sink text = IsTrue sink.tells → sink.taken_after ≡ sink.taken ++ text

-- the sink took a front of this text
abbrev pub TookFront : SinkChange → List ℕ → Type 0
TookFront sink text = IsTrue sink.tells → (n : ℕ) × (sink.taken_after ≡ sink.taken ++ take n text)

-- the sink took a front of this text, and then one of the line for want of memory; both may be empty
abbrev pub TookFronts : SinkChange → List ℕ → Type 0
TookFronts sink text =
    IsTrue sink.tells → (n : ℕ) × (m : ℕ) × (sink.taken_after ≡ sink.taken ++ take n text ++ take m no_memory)

-- The sink took this text, or a front of it where its count rose.
pub record Said (sink : SinkChange) (text : List ℕ) : Type 0 where
  pub front : TookFront sink text
  pub whole : (SinkFailed sink → ⊥) → Took sink text
