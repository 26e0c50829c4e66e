-- A hart that has a next step finds its row.
use Rattle.std.proofs.Common.{◌≡◌, ℕ, ◌-◌, ◌*◌, ◌/◌, ◌%◌, ◌≤◌, ◌<◌, List, Bool, true, false, ◌&&◌, ◌==◌, Option, None}
use Rattle.std.proofs.Common.{Some, refl, sym, ap, ◌∙◌, subst, length, get_or}
use Rattle.std.specs.Prelude.{if◌then◌else◌, slice_get, slice_index}
use Rattle.std.proofs.lemmas.Bool.{and_parts}
use Rattle.std.proofs.lemmas.Option.{slice_get_within, get_or_from_slice_get}
use Rattle.tm_table.specs.declared.instr.Instr.{Instr}
use Rattle.tm_table.specs.declared.state.Access.{Access}
use Rattle.tm_table.specs.State.{Hart}
use Rattle.tm_table.specs.Row.{row, row_word}
use Rattle.tm_plan_map.specs.Map.{text_base}
use Rattle.tm_plan_map.specs.Slots.{instr_of}
use Rattle.tm_plan_cases.specs.declared.program.Program.{Program}
use Rattle.tm_plan_map.proofs.Within.{within-parts}
use Rattle.tm_runs.proofs.Rows.{row-decoded, decoded-row}
use Rattle.tm_world.specs.Place.{is_text, word_at}
use Rattle.tm_world.specs.Kinds.{IsPossible}
use Rattle.tm_world.specs.Work.{HasNext}
use Rattle.tm_guest.specs.declared.decoded.Decoded.{Decoded}
use Rattle.tm_guest.specs.Fields.{IsDecoded, AreDecoded, IsRow}
use Rattle.tm_base.proofs.ListLemmas.{same-value}

-- the word at a program counter is one of the text
record Stands (p : Program) (pc w : ℕ) : Type 0 where
  from : text_base ≤ pc
  few : (pc - text_base) / 4 < length p.text
  is : slice_index p.text ((pc - text_base) / 4) ≡ w

stands : (p : Program) (pc w : ℕ) → word_at p pc ≡ Some w → Stands p pc w
stands p pc w e = by ((pc % 4 == 0) && is_text p pc) refl e
  where
    by : (b : Bool) → ((pc % 4 == 0) && is_text p pc) ≡ b
        → (if b then slice_get p.text ((pc - text_base) / 4) else None) ≡ Some w → Stands p pc w
    by true q r =
        let n = (pc - text_base) / 4 in
        let inside = (and_parts (pc % 4 == 0) (is_text p pc) q).1 in
        record {
          from = (within-parts text_base (4 * length p.text) pc inside).0;
          few = slice_get_within p.text n w r;
          is = get_or_from_slice_get p.text n w 0 r;
        }
    by false q r = cc

-- What a hart that has a next step finds at its place of the rows.
pub record Finds (p : Program) (hart : Hart) (decodes : List Decoded) : Type 0 where
  pub from : text_base ≤ hart.pc
  pub few : (hart.pc - text_base) / 4 < length decodes
  pub row : (d : Decoded) → IsRow p hart (get_or decodes ((hart.pc - text_base) / 4) d)

-- The decoded row of a word with a next step is its row.
is-row : (p : Program) (hart : Hart) (w : ℕ) (i : Instr) (at : Decoded) → word_at p hart.pc ≡ Some w
    → instr_of w ≡ Some i → IsDecoded w at
    → ((read : ℕ) → (after : Hart) × (access : Access) × (row_word hart w read ≡ Some (after, access))
    × IsPossible access)
    → IsRow p hart at
is-row p hart w i at there known decoded next =
    let by-instr : (read : ℕ) → row_word hart w read ≡ Some (row hart at.instr read) =
    λ read. decoded-row hart w read i known
    ∙ ap (λ (j : Instr). Some (row hart j read)) (sym (decoded.instr i known)) in
    record {
      word = there ∙ ap (λ (x : ℕ). Some x) (sym decoded.word);
      decoded = ap instr_of decoded.word ∙ (known ∙ ap (λ (j : Instr). Some j) (sym (decoded.instr i known)));
      fits = decoded.fits;
      made = λ read. ap (λ (x : ℕ). row_word hart x read) decoded.word ∙ by-instr read;
      possible = λ read.
          let (after, access, made, possible) = next read in
          let same = same-value (row_word hart w read) (after, access) (row hart at.instr read) made (by-instr read) in
          subst (λ (r : Hart × Access). IsPossible r.1) same possible;
    }

pub finds : (p : Program) (hart : Hart) (decodes : List Decoded) → HasNext p hart → AreDecoded p.text decodes
    → Finds p hart decodes
finds p hart decodes (w, there, next) rows =
    let k = (hart.pc - text_base) / 4 in
    let s = stands p hart.pc w there in
    let (after, access, made, possible) = next 0 in
    let (i, known, is) = row-decoded hart w 0 after access made in
    record {
      from = s.from;
      few = subst (λ (n : ℕ). k < n) (sym rows.count) s.few;
      row = λ d.
          let at = get_or decodes k d in
          is-row p hart w i at there known (subst (λ (x : ℕ). IsDecoded x at) s.is (rows.each k d s.few)) next;
    }
