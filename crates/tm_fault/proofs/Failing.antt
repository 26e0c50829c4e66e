-- A line isn't read exactly where one of its tokens is at fault, and with this token's fault.
use Rattle.std.proofs.Common.{◌≡◌, ◌*◌, ◌^◌, ◌++◌, ℕ, true, refl, sym, ap, subst, List, [], ◌∷◌, length, Option}
use Rattle.std.proofs.Common.{Some}
use Rattle.std.proofs.Common.{None, Ok, Err, inl, inr, ◌⊎◌, codes}
use Rattle.tm_lex.specs.Lines.{Lexeme, keyword, line_end, ◌>>=◌}
use Rattle.tm_table.specs.declared.instr.Instr.{Instr}
use Rattle.tm_plan_cases.specs.declared.cases.Cases.{Cases}
use Rattle.tm_plan_cases.specs.declared.cases.Stream.{Stream}
use Rattle.tm_plan_cases.specs.Streams.{stream_in}
use Rattle.tm_plan_map.specs.Slots.{load_width, store_width}
use Rattle.tm_plan_script.specs.declared.faults.FaultLine.{FaultLine}
use Rattle.tm_plan_script.specs.declared.faults.Action.{Action}
use Rattle.tm_plan_script.specs.declared.faults.Action.TheVariants as act
use Rattle.tm_plan_script.specs.Accepted.{slot_in}
use Rattle.tm_fault.specs.declared.fault.FaultScriptFault.{FaultScriptFault}
use Rattle.tm_fault.specs.declared.fault.Want2.TheVariants as want
use Rattle.tm_fault.specs.declared.line.Kind.{Kind}
use Rattle.tm_fault.specs.declared.line.Kind.TheVariants as kind
use Rattle.tm_fault.specs.Script.{Reading, one, index, named, pass_index, named_pass, kind_reading, xor, with_number}
use Rattle.tm_fault.specs.Script.{number_reading, action_reading, slot_count, ended, action_line, slot_reading, begun}
use Rattle.tm_fault.specs.Script.{pass_line, case_line, line_reading}
use Rattle.tm_fault.specs.Causes.{Place, FailsAt, xor_limit, action_places, IsNoLine}
use Rattle.tm_fault.specs.Causes.Place.{word_place, index_place, pass_place, action_place, xor_place, end_place}
use Rattle.tm_fault.proofs.Ends.{has_end}
use Rattle.tm_fault.proofs.Reading.{err≢ok, err-same, ok-same, bound}
use Rattle.tm_fault.proofs.Tokens.{numbered_is, slot_read}
use Rattle.tm_fault.proofs.Places.{Took, first_fails, later_fails, ends_on, word_failed, end_failed, index_failed}
use Rattle.tm_fault.proofs.Places.{pass_failed, action_failed, xor_failed, word_took, index_took, pass_took}
use Rattle.tm_fault.proofs.Places.{action_took}
use Rattle.tm_fault.proofs.Places.{xor_took}

-- ---- one reader behind another

-- one of two readers fails, one behind the other
behind_err : {A B : Type 0} (r : Reading A) (f : A → List Lexeme → Reading B) (e : FaultScriptFault) → r >>= f ≡ Err e
    → (r ≡ Err e) ⊎ ((a : A) × (mid : List Lexeme) × (r ≡ Ok (a, mid)) × (f a mid ≡ Err e))
behind_err (Ok p) f e is = inr (p.0, p.1, refl, is)
behind_err (Err d) f e is = inl (ap Err (err-same d e is))

-- what was read stands at its places: what fails behind it fails behind these places, and the line's end is still to
-- come there
record Behind (ps : List Place) (xs rest : List Lexeme) : Type 0 where
  pub later : (qs : List Place) (e : FaultScriptFault) → FailsAt qs rest e → FailsAt (ps ++ qs) xs e
  pub ends : has_end xs ≡ true → has_end rest ≡ true

word_behind : (w : List ℕ) (xs : List Lexeme) (u : Unit {0}) (rest : List Lexeme)
    → one want.Word (keyword w) xs ≡ Ok (u, rest) → Behind (word_place w ∷ []) xs rest
word_behind w xs u rest is =
    let t = word_took w xs u rest is in record {
      later = λ qs e f. later_fails (word_place w) qs xs rest e t f;
      ends = ends_on (word_place w) xs rest refl t;
    }

-- ---- a word and a number, and a word and a pass

named_failed : (w : List ℕ) (says limit : ℕ) (ps : List Place) (xs : List Lexeme) (e : FaultScriptFault)
    → has_end xs ≡ true → named w limit xs ≡ Err e → FailsAt (word_place w ∷ index_place says limit ∷ ps) xs e
named_failed w says limit ps xs e ends is =
    elim (behind_err (one want.Word (keyword w) xs) (λ _ rest. index limit rest) e is) [
      | inl first ↦ first_fails (word_place w) (index_place says limit ∷ ps) xs e (word_failed w xs e ends first)
      | inr h ↦
          let b = word_behind w xs h.0 h.1 h.2 in
          b.later (index_place says limit ∷ ps) e
          (first_fails (index_place says limit) ps h.1 e (index_failed says limit h.1 e (b.ends ends) h.3))
    ]

named_behind : (w : List ℕ) (limit : ℕ) (xs : List Lexeme) (n : ℕ) (rest : List Lexeme)
    → named w limit xs ≡ Ok (n, rest)
    → Behind (word_place w ∷ index_place n limit ∷ []) xs rest
named_behind w limit xs n rest is =
    let p = bound (one want.Word (keyword w) xs) (λ _ rest. index limit rest) n rest is in
    let b = word_behind w xs p.a p.mid p.first in
    let t = index_took limit p.mid n rest p.second in record {
      later = λ qs e f. b.later (index_place n limit ∷ qs) e (later_fails (index_place n limit) qs p.mid rest e t f);
      ends = λ ends. ends_on (index_place n limit) p.mid rest refl t (b.ends ends);
    }

pass_named_failed : (says : Option ℕ) (passes : ℕ) (ps : List Place) (xs : List Lexeme) (e : FaultScriptFault)
    → has_end xs ≡ true → named_pass passes xs ≡ Err e
    → FailsAt (word_place (codes "pass") ∷ pass_place says passes ∷ ps) xs e
pass_named_failed says passes ps xs e ends is =
    elim (behind_err (one want.Word (keyword (codes "pass")) xs) (λ _ rest. pass_index passes rest) e is) [
      | inl first ↦ first_fails (word_place (codes "pass")) (pass_place says passes ∷ ps) xs e
          (word_failed (codes "pass") xs e ends first)
      | inr h ↦
          let b = word_behind (codes "pass") xs h.0 h.1 h.2 in
          b.later (pass_place says passes ∷ ps) e
          (first_fails (pass_place says passes) ps h.1 e (pass_failed says passes h.1 e (b.ends ends) h.3))
    ]

pass_behind : (passes : ℕ) (xs : List Lexeme) (p : Option ℕ) (rest : List Lexeme) → named_pass passes xs ≡ Ok (p, rest)
    → Behind (word_place (codes "pass") ∷ pass_place p passes ∷ []) xs rest
pass_behind passes xs p rest is =
    let q = bound (one want.Word (keyword (codes "pass")) xs) (λ _ rest. pass_index passes rest) p rest is in
    let b = word_behind (codes "pass") xs q.a q.mid q.first in
    let t = pass_took passes q.mid p rest q.second in record {
      later = λ qs e f. b.later (pass_place p passes ∷ qs) e (later_fails (pass_place p passes) qs q.mid rest e t f);
      ends = λ ends. ends_on (pass_place p passes) q.mid rest refl t (b.ends ends);
    }

-- ---- an action and the line's end

-- an action that was read, with its number: it stands at its places
numbered_behind : (k : Kind) (slot : Option Instr) (f : ℕ → Action) (limit : ℕ) (a : Action) (xs mid rest : List Lexeme)
    → Took (action_place k slot) xs mid → xor_limit k slot ≡ limit → with_number f (xor limit mid) ≡ Ok (a, rest)
    → ((n : ℕ) → action_places slot (f n) ≡ action_place k slot ∷ xor_place n (xor_limit k slot) ∷ [])
    → Behind (action_places slot a) xs rest
numbered_behind k slot f limit a xs mid rest t same is shape =
    let n = numbered_is f (xor limit mid) a rest is in
    let u : Took (xor_place n.0 (xor_limit k slot)) mid rest =
    subst (λ (l : ℕ). Took (xor_place n.0 l) mid rest) (sym same) (xor_took limit mid n.0 rest n.2) in
    let ps : List Place = action_place k slot ∷ xor_place n.0 (xor_limit k slot) ∷ [] in
    let b : Behind ps xs rest = record {
      later = λ qs e g. later_fails (action_place k slot) (xor_place n.0 (xor_limit k slot) ∷ qs) xs mid e t
          (later_fails (xor_place n.0 (xor_limit k slot)) qs mid rest e u g);
      ends = λ ends. ends_on (xor_place n.0 (xor_limit k slot)) mid rest refl u
          (ends_on (action_place k slot) xs mid refl t ends);
    } in
    subst (λ (c : Action). Behind (action_places slot c) xs rest) n.1
    (subst (λ (qs : List Place). Behind qs xs rest) (sym (shape n.0)) b)

bare_behind : (k : Kind) (slot : Option Instr) (a b : Action) (xs mid rest : List Lexeme)
    → Took (action_place k slot) xs mid → ◌≡◌ {A = Reading Action} (Ok (a, mid)) (Ok (b, rest))
    → action_places slot a ≡ action_place k slot ∷ [] → Behind (action_places slot b) xs rest
bare_behind k slot a b xs mid rest t is shape =
    let same = ok-same (a, mid) (b, rest) is in
    let made : Behind (action_place k slot ∷ []) xs mid = record {
      later = λ qs e g. later_fails (action_place k slot) qs xs mid e t g;
      ends = ends_on (action_place k slot) xs mid refl t;
    } in
    subst (λ (p : Action × List Lexeme). Behind (action_places slot p.0) xs p.1) same
    (subst (λ (qs : List Place). Behind qs xs mid) (sym shape) made)

action_behind_at : (slot : Option Instr) (xs mid rest : List Lexeme) (k : Kind) (i : Instr) (a : Action)
    → Took (action_place k slot) xs mid → slot ≡ Some i → number_reading k i mid ≡ Ok (a, rest)
    → Behind (action_places slot a) xs rest
unfolding number_reading
action_behind_at slot xs mid rest kind.Result i a t at is =
    numbered_behind kind.Result slot act.Result (2 ^ 64) a xs mid rest t refl is (λ n. refl)
action_behind_at slot xs mid rest kind.Loaded i a t at is =
    numbered_behind kind.Loaded slot act.Loaded (2 ^ (8 * load_width i.op)) a xs mid rest t
    (ap (xor_limit kind.Loaded) at)
    is (λ n. refl)
action_behind_at slot xs mid rest kind.Stored i a t at is =
    numbered_behind kind.Stored slot act.Stored (2 ^ (8 * store_width i.op)) a xs mid rest t
    (ap (xor_limit kind.Stored) at) is (λ n. refl)
action_behind_at slot xs mid rest kind.Drop i a t at is =
    bare_behind kind.Drop slot act.Drop a xs mid rest t is refl
action_behind_at slot xs mid rest kind.Turn i a t at is =
    bare_behind kind.Turn slot act.Turn a xs mid rest t is refl

action_behind : (slot : Option Instr) (xs : List Lexeme) (a : Action) (rest : List Lexeme)
    → action_reading slot xs ≡ Ok (a, rest) → Behind (action_places slot a) xs rest
unfolding action_reading
action_behind slot xs a rest is =
    let p = bound (kind_reading slot xs) (λ k rest. number_reading k.0 k.1 rest) a rest is in
    let t = action_took slot xs p.a.0 p.a.1 p.mid p.first in
    action_behind_at slot xs p.mid rest p.a.0 p.a.1 a t (slot_read slot xs p.a.0 p.a.1 p.mid p.first) p.second

-- a number of an action that wasn't read
number_failed : (k : Kind) (slot : Option Instr) (f : ℕ → Action) (limit : ℕ) (qs : List Place) (xs mid : List Lexeme)
    (e : FaultScriptFault) → has_end xs ≡ true → Took (action_place k slot) xs mid → xor_limit k slot ≡ limit
    → with_number f (xor limit mid) ≡ Err e
    → FailsAt (action_place k slot ∷ xor_place 0 (xor_limit k slot) ∷ qs) xs e
number_failed k slot f limit qs xs mid e ends t same is =
    let inner = ends_on (action_place k slot) xs mid refl t ends in
    later_fails (action_place k slot) (xor_place 0 (xor_limit k slot) ∷ qs) xs mid e t
    (subst (λ (l : ℕ). FailsAt (xor_place 0 l ∷ qs) mid e) (sym same)
    (first_fails (xor_place 0 limit) qs mid e (xor_failed 0 limit mid e inner (with_err f (xor limit mid) e is))))
  where
    with_err : (f : ℕ → Action) (r : Reading ℕ) (e : FaultScriptFault) → with_number f r ≡ Err e → r ≡ Err e
    with_err f (Ok p) e is = absurd (err≢ok e (f p.0, p.1) (sym is))
    with_err f (Err d) e is = ap Err (err-same d e is)

-- an action that fails at one of its tokens
abbrev ActionFails : Option Instr → List Place → List Lexeme → FaultScriptFault → Type 0
ActionFails slot qs xs e = (a : Action) × FailsAt (action_places slot a ++ qs) xs e

behind_kind : (slot : Option Instr) (qs : List Place) (xs mid : List Lexeme) (k : Kind) (i : Instr)
    (e : FaultScriptFault)
    → has_end xs ≡ true → Took (action_place k slot) xs mid → slot ≡ Some i → number_reading k i mid ≡ Err e
    → ActionFails slot qs xs e
unfolding number_reading
behind_kind slot qs xs mid kind.Result i e ends t at is =
    (act.Result 0, number_failed kind.Result slot act.Result (2 ^ 64) qs xs mid e ends t refl is)
behind_kind slot qs xs mid kind.Loaded i e ends t at is = (
  act.Loaded 0,
  number_failed kind.Loaded slot act.Loaded (2 ^ (8 * load_width i.op)) qs xs mid e ends t
      (ap (xor_limit kind.Loaded) at) is,
)
behind_kind slot qs xs mid kind.Stored i e ends t at is = (
  act.Stored 0,
  number_failed kind.Stored slot act.Stored (2 ^ (8 * store_width i.op)) qs xs mid e ends t
      (ap (xor_limit kind.Stored) at) is,
)
behind_kind slot qs xs mid kind.Drop i e ends t at is = absurd (err≢ok e (act.Drop, mid) (sym is))
behind_kind slot qs xs mid kind.Turn i e ends t at is = absurd (err≢ok e (act.Turn, mid) (sym is))

action_reading_fails : (slot : Option Instr) (qs : List Place) (xs : List Lexeme) (e : FaultScriptFault)
    → has_end xs ≡ true → action_reading slot xs ≡ Err e → ActionFails slot qs xs e
unfolding action_reading
action_reading_fails slot qs xs e ends is =
    elim (behind_err (kind_reading slot xs) (λ k rest. number_reading k.0 k.1 rest) e is) [
      | inl first ↦ (
        act.Drop,
        first_fails (action_place kind.Drop slot) qs xs e
            (action_failed kind.Drop slot xs e ends first),
      )
      | inr h ↦ behind_kind slot qs xs h.1 h.0.0 h.0.1 e ends (action_took slot xs h.0.0 h.0.1 h.1 h.2)
          (slot_read slot xs h.0.0 h.0.1 h.1 h.2) h.3
    ]

-- the places of a slot, its action and the line's end
abbrev slot_places : Option Stream → ℕ → Action → List Place
slot_places stream s a = word_place (codes "slot") ∷ index_place s (slot_count stream)
    ∷ (action_places (slot_in stream s) a ++ end_place ∷ [])

slot_fails : (stream : Option Stream) (line : FaultLine) (xs : List Lexeme) (e : FaultScriptFault) → has_end xs ≡ true
    → slot_reading stream line xs ≡ Err e → (s : ℕ) × (a : Action) × FailsAt (slot_places stream s a) xs e
unfolding slot_reading
slot_fails stream line xs e ends is =
    elim (behind_err (named (codes "slot") (slot_count stream) xs) (action_line stream line) e is) [
      | inl first ↦ (
        0,
        act.Drop,
        named_failed (codes "slot") 0 (slot_count stream) (action_places (slot_in stream 0) act.Drop
            ++ end_place ∷ []) xs e ends first,
      )
      | inr h ↦
          let b = named_behind (codes "slot") (slot_count stream) xs h.0 h.1 h.2 in
          let f = action_fails_at h.0 h.1 (b.ends ends) h.3 in
          (h.0, f.0, b.later (action_places (slot_in stream h.0) f.0 ++ end_place ∷ []) e f.1)
    ]
  where
    end_fails_at : (s : ℕ) (a : Action) (mid rest : List Lexeme) → has_end mid ≡ true
        → action_reading (slot_in stream s) mid ≡ Ok (a, rest)
        → ended (record line { slot = s; action = a }) rest ≡ Err e
        → ActionFails (slot_in stream s) (end_place ∷ []) mid e
    end_fails_at s a mid rest ends ok is =
        let b = action_behind (slot_in stream s) mid a rest ok in
        elim (behind_err (one want.LineEnd line_end rest)
        (λ _ xs. Ok (record line { slot = s; action = a }, xs)) e is) [
          | inl first ↦ (
            a,
            b.later (end_place ∷ []) e
                (first_fails end_place [] rest e (end_failed rest e (b.ends ends) first)),
          )
          | inr h ↦ absurd (err≢ok e (record line { slot = s; action = a }, h.1) (sym h.3))
        ]

    action_fails_at : (s : ℕ) (mid : List Lexeme) → has_end mid ≡ true → action_line stream line s mid ≡ Err e
        → ActionFails (slot_in stream s) (end_place ∷ []) mid e
    action_fails_at s mid ends is =
        elim (behind_err (action_reading (slot_in stream s) mid)
        (λ action xs. ended (record line { slot = s; action = action }) xs) e is) [
          | inl first ↦ action_reading_fails (slot_in stream s) (end_place ∷ []) mid e ends first
          | inr h ↦ end_fails_at s h.0 mid h.1 ends h.2 h.3
        ]

-- ---- a line

abbrev pass_places : Cases → (hart case : ℕ) → Option ℕ → ℕ → Action → List Place
pass_places cases hart case p s a =
    word_place (codes "pass") ∷ pass_place p cases.passes ∷ slot_places (stream_in cases case hart) s a

pass_fails_at : (cases : Cases) (hart case : ℕ) (xs : List Lexeme) (e : FaultScriptFault) → has_end xs ≡ true
    → pass_line cases hart case xs ≡ Err e
    → (p : Option ℕ) × (s : ℕ) × (a : Action) × FailsAt (pass_places cases hart case p s a) xs e
pass_fails_at cases hart case xs e ends is =
    let stream = stream_in cases case hart in
    elim (behind_err (named_pass cases.passes xs) (λ pass xs. slot_reading stream (begun hart case pass) xs) e is) [
      | inl first ↦ (
        None,
        0,
        act.Drop,
        pass_named_failed None cases.passes (slot_places stream 0 act.Drop) xs e ends first,
      )
      | inr h ↦
          let b = pass_behind cases.passes xs h.0 h.1 h.2 in
          let f = slot_fails stream (begun hart case h.0) h.1 e (b.ends ends) h.3 in
          (h.0, f.0, f.1, b.later (slot_places stream f.0 f.1) e f.2)
    ]

abbrev case_places : Cases → (hart case : ℕ) → Option ℕ → ℕ → Action → List Place
case_places cases hart case p s a =
    word_place (codes "case") ∷ index_place case (length cases.cases) ∷ pass_places cases hart case p s a

case_fails : (cases : Cases) (hart : ℕ) (xs : List Lexeme) (e : FaultScriptFault) → has_end xs ≡ true
    → case_line cases hart xs ≡ Err e
    → (c : ℕ) × (p : Option ℕ) × (s : ℕ) × (a : Action) × FailsAt (case_places cases hart c p s a) xs e
case_fails cases hart xs e ends is =
    elim (behind_err (named (codes "case") (length cases.cases) xs) (pass_line cases hart) e is) [
      | inl first ↦ (
        0,
        None,
        0,
        act.Drop,
        named_failed (codes "case") 0 (length cases.cases) (pass_places cases hart 0 None 0 act.Drop) xs e ends first,
      )
      | inr h ↦
          let b = named_behind (codes "case") (length cases.cases) xs h.0 h.1 h.2 in
          let f = pass_fails_at cases hart h.0 h.1 e (b.ends ends) h.3 in
          (h.0, f.0, f.1, f.2, b.later (pass_places cases hart h.0 f.0 f.1 f.2) e f.3)
    ]

-- a line that isn't read is at fault at one of its tokens
pub no_line : (cases : Cases) (xs : List Lexeme) (e : FaultScriptFault) → has_end xs ≡ true
    → line_reading cases xs ≡ Err e → IsNoLine cases xs e
unfolding line_reading
no_line cases xs e ends is =
    elim (behind_err (named (codes "hart") cases.harts xs) (case_line cases) e is) [
      | inl first ↦ (
        record { hart = 0; case = 0; pass = None; slot = 0; action = act.Drop },
        named_failed (codes "hart") 0 cases.harts (case_places cases 0 0 None 0 act.Drop) xs e ends first,
      )
      | inr h ↦
          let b = named_behind (codes "hart") cases.harts xs h.0 h.1 h.2 in
          let f = case_fails cases h.0 h.1 e (b.ends ends) h.3 in (
            record { hart = h.0; case = f.0; pass = f.1; slot = f.2; action = f.3 },
            b.later (case_places cases h.0 f.0 f.1 f.2 f.3) e f.4,
          )
    ]
