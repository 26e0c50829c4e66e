-- A line with a token at fault isn't read, for this fault.
use Rattle.std.proofs.Common.{◌≡◌, ◌∙◌, ◌++◌, ℕ, true, refl, sym, ap, List, [], ◌∷◌, length}
use Rattle.std.proofs.Common.{Option, Some, None, Ok, Err, inl, inr, ◌⊎◌, codes}
use Rattle.std.proofs.lemmas.Slice.Eq.{bytes_eq-Decides}
use Rattle.tm_lex.specs.Lines.{Lexeme, keyword, line_end, ◌>>=◌}
use Rattle.tm_table.specs.declared.instr.Instr.{Instr}
use Rattle.tm_plan_cases.specs.declared.cases.Cases.{Cases}
use Rattle.tm_plan_cases.specs.declared.cases.Stream.{Stream}
use Rattle.tm_plan_cases.specs.Streams.{stream_in}
use Rattle.tm_plan_script.specs.declared.faults.FaultLine.{FaultLine}
use Rattle.tm_plan_script.specs.declared.faults.Action.{Action}
use Rattle.tm_plan_script.specs.declared.faults.Action.TheVariants as act
use Rattle.tm_plan_script.specs.Accepted.{slot_in}
use Rattle.tm_fault.specs.declared.fault.FaultScriptFault.{FaultScriptFault}
use Rattle.tm_fault.specs.declared.fault.Want2.TheVariants as want
use Rattle.tm_fault.specs.declared.line.Kind.{Kind}
use Rattle.tm_fault.specs.declared.line.Kind.TheVariants as kind
use Rattle.tm_fault.specs.Script.{Reading, one, index, named, is_star, pass_index, named_pass, kind_reading, xor}
use Rattle.tm_fault.specs.Script.{with_number, number_reading, action_reading, slot_count, ended, action_line}
use Rattle.tm_fault.specs.Script.{slot_reading, begun, pass_line, case_line, line_reading}
use Rattle.tm_fault.specs.Causes.{Place, Stands, FailsAt, xor_limit, action_places, places}
use Rattle.tm_fault.specs.Causes.Place.{word_place, index_place, pass_place, action_place, xor_place, end_place}
use Rattle.tm_fault.proofs.Tokens.{fits_word, fits_number, no_star, kind_reads, xor_reads}
use Rattle.tm_fault.proofs.Places.{word_fails, end_fails, index_fails, pass_fails, action_fails, xor_fails}
use Rattle.std.proofs.lemmas.Bool.{lt-ltb}

-- either the reader has this fault, or it reads this, and what is behind fails at further places
abbrev FailsOr : {A : Type 0} → Reading A → A → List Place → FaultScriptFault → Type 0
FailsOr r a ps e = (r ≡ Err e) ⊎ ((rest : List Lexeme) × (r ≡ Ok (a, rest)) × FailsAt ps rest e)

-- so it is with two readers, one behind the other
then_or : {A B : Type 0} (r : Reading A) (f : A → List Lexeme → Reading B) (a : A) (b : B) (qs ps : List Place)
    (e : FaultScriptFault) → FailsOr r a qs e
    → ((rest : List Lexeme) → FailsAt qs rest e → FailsOr (f a rest) b ps e) → FailsOr (r >>= f) b ps e
then_or r f a b qs ps e (inl is) more = inl (ap (λ t. t >>= f) is)
then_or r f a b qs ps e (inr h) more = elim (more h.0 h.2) [
  | inl is ↦ inl (ap (λ t. t >>= f) h.1 ∙ is)
  | inr g ↦ inr (g.0, ap (λ t. t >>= f) h.1 ∙ g.1, g.2)
]

-- and where the last one fails
then_err : {A B : Type 0} (r : Reading A) (f : A → List Lexeme → Reading B) (a : A) (qs : List Place)
    (e : FaultScriptFault) → FailsOr r a qs e → ((rest : List Lexeme) → FailsAt qs rest e → f a rest ≡ Err e)
    → r >>= f ≡ Err e
then_err r f a qs e (inl is) more = ap (λ t. t >>= f) is
then_err r f a qs e (inr h) more = ap (λ t. t >>= f) h.1 ∙ more h.0 h.2

-- ---- one token

word_or : (w : List ℕ) (ps : List Place) (xs : List Lexeme) (e : FaultScriptFault) → FailsAt (word_place w ∷ ps) xs e
    → FailsOr (one want.Word (keyword w) xs) tt ps e
word_or w ps [] e f = absurd f
word_or w ps (x ∷ xs) e (inl f) = inl (word_fails w x xs e f)
word_or w ps (x ∷ xs) e (inr h) = inr (xs, rw (fits_word w x h.0) refl, h.1)

index_or : (n limit : ℕ) (ps : List Place) (xs : List Lexeme) (e : FaultScriptFault)
    → FailsAt (index_place n limit ∷ ps) xs e → FailsOr (index limit xs) n ps e
index_or n limit ps [] e f = absurd f
index_or n limit ps (x ∷ xs) e (inl f) = inl (index_fails n limit x xs e f)
index_or n limit ps (x ∷ xs) e (inr h) = inr (xs, rw (fits_number x n h.0.0, lt-ltb n limit h.0.1) refl, h.1)

pass_stands : (p : Option ℕ) (passes : ℕ) (x : Lexeme) (xs : List Lexeme) → Stands (pass_place p passes) x
    → pass_index passes (x ∷ xs) ≡ Ok (p, xs)
pass_stands None passes x xs s =
    let star : is_star x ≡ true = rw (s.0.0, (bytes_eq-Decides x.1 (codes "*")).1 s.0.1) refl in rw star refl
pass_stands (Some n) passes x xs s = rw (no_star x n s.0, fits_number x n s.0, lt-ltb n passes s.1) refl

pass_or : (p : Option ℕ) (passes : ℕ) (ps : List Place) (xs : List Lexeme) (e : FaultScriptFault)
    → FailsAt (pass_place p passes ∷ ps) xs e → FailsOr (pass_index passes xs) p ps e
pass_or p passes ps [] e f = absurd f
pass_or p passes ps (x ∷ xs) e (inl f) = inl (pass_fails p passes x xs e f)
pass_or p passes ps (x ∷ xs) e (inr h) = inr (xs, pass_stands p passes x xs h.0, h.1)

xor_or : (n limit : ℕ) (ps : List Place) (xs : List Lexeme) (e : FaultScriptFault)
    → FailsAt (xor_place n limit ∷ ps) xs e
    → FailsOr (xor limit xs) n ps e
xor_or n limit ps [] e f = absurd f
xor_or n limit ps (x ∷ xs) e (inl f) = inl (xor_fails n limit x xs e f)
xor_or n limit ps (x ∷ xs) e (inr h) = inr (xs, xor_reads limit n x xs h.0.0 h.0.1.0 h.0.1.1, h.1)

end_err : (xs : List Lexeme) (e : FaultScriptFault) → FailsAt (end_place ∷ []) xs e
    → one want.LineEnd line_end xs ≡ Err e
end_err [] e f = absurd f
end_err (x ∷ xs) e (inl f) = end_fails x xs e f
end_err (x ∷ xs) e (inr h) = absurd h.1

-- ---- a word and what is behind it

named_or : (w : List ℕ) (n limit : ℕ) (ps : List Place) (xs : List Lexeme) (e : FaultScriptFault)
    → FailsAt (word_place w ∷ index_place n limit ∷ ps) xs e → FailsOr (named w limit xs) n ps e
named_or w n limit ps xs e f =
    then_or (one want.Word (keyword w) xs) (λ _ rest. index limit rest) tt n (index_place n limit ∷ ps) ps e
    (word_or w (index_place n limit ∷ ps) xs e f) (λ rest g. index_or n limit ps rest e g)

named_pass_or : (p : Option ℕ) (passes : ℕ) (ps : List Place) (xs : List Lexeme) (e : FaultScriptFault)
    → FailsAt (word_place (codes "pass") ∷ pass_place p passes ∷ ps) xs e → FailsOr (named_pass passes xs) p ps e
named_pass_or p passes ps xs e f =
    then_or (one want.Word (keyword (codes "pass")) xs) (λ _ rest. pass_index passes rest) tt p
    (pass_place p passes ∷ ps) ps e (word_or (codes "pass") (pass_place p passes ∷ ps) xs e f)
    (λ rest g. pass_or p passes ps rest e g)

-- ---- an action

-- the kind is read, with the slot's instruction
kind_or : (k : Kind) (slot : Option Instr) (ps : List Place) (xs : List Lexeme) (e : FaultScriptFault)
    → FailsAt (action_place k slot ∷ ps) xs e → (kind_reading slot xs ≡ Err e)
    ⊎ ((i : Instr) × (rest : List Lexeme) × (slot ≡ Some i) × (kind_reading slot xs ≡ Ok ((k, i), rest))
    × FailsAt ps rest e)
kind_or k slot ps [] e f = absurd f
kind_or k slot ps (x ∷ xs) e (inl f) = inl (action_fails k slot x xs e f)
kind_or k slot ps (x ∷ xs) e (inr h) =
    let (i, at, fine) = h.0.1 in
    inr (i, xs, at, ap (λ (o : Option Instr). kind_reading o (x ∷ xs)) at ∙ kind_reads k i x xs h.0.0 fine, h.1)

-- an action with a number
numbered_or : (k : Kind) (slot : Option Instr) (f : ℕ → Action) (n : ℕ) (ps : List Place) (xs : List Lexeme)
    (e : FaultScriptFault)
    → ((i : Instr) (rest : List Lexeme) → slot ≡ Some i
    → number_reading k i rest ≡ with_number f (xor (xor_limit k slot) rest))
    → FailsAt (action_place k slot ∷ xor_place n (xor_limit k slot) ∷ ps) xs e
    → FailsOr (kind_reading slot xs >>= (λ k rest. number_reading k.0 k.1 rest)) (f n) ps e
numbered_or k slot f n ps xs e reads at = elim (kind_or k slot (xor_place n (xor_limit k slot) ∷ ps) xs e at) [
  | inl is ↦ inl (ap (λ t. t >>= (λ k rest. number_reading k.0 k.1 rest)) is)
  | inr h ↦
      let same = ap (λ t. t >>= (λ k rest. number_reading k.0 k.1 rest)) h.3 ∙ reads h.0 h.1 h.2 in
      elim (xor_or n (xor_limit k slot) ps h.1 e h.4) [
        | inl is ↦ inl (same ∙ ap (with_number f) is)
        | inr g ↦ inr (g.0, same ∙ ap (with_number f) g.1, g.2)
      ]
]

-- an action without one
bare_or : (k : Kind) (slot : Option Instr) (a : Action) (ps : List Place) (xs : List Lexeme) (e : FaultScriptFault)
    → ((i : Instr) (rest : List Lexeme) → number_reading k i rest ≡ Ok (a, rest))
    → FailsAt (action_place k slot ∷ ps) xs e
    → FailsOr (kind_reading slot xs >>= (λ k rest. number_reading k.0 k.1 rest)) a ps e
bare_or k slot a ps xs e reads at = elim (kind_or k slot ps xs e at) [
  | inl is ↦ inl (ap (λ t. t >>= (λ k rest. number_reading k.0 k.1 rest)) is)
  | inr h ↦ inr (h.1, ap (λ t. t >>= (λ k rest. number_reading k.0 k.1 rest)) h.3 ∙ reads h.0 h.1, h.4)
]

action_or : (slot : Option Instr) (a : Action) (ps : List Place) (xs : List Lexeme) (e : FaultScriptFault)
    → FailsAt (action_places slot a ++ ps) xs e → FailsOr (action_reading slot xs) a ps e
unfolding action_reading number_reading
action_or slot (act.Result n) ps xs e f =
    numbered_or kind.Result slot act.Result n ps xs e (λ i rest at. refl) f
action_or slot (act.Loaded n) ps xs e f =
    numbered_or kind.Loaded slot act.Loaded n ps xs e
    (λ i rest at. ap (λ (l : ℕ). with_number act.Loaded (xor l rest)) (sym (ap (xor_limit kind.Loaded) at))) f
action_or slot (act.Stored n) ps xs e f =
    numbered_or kind.Stored slot act.Stored n ps xs e
    (λ i rest at. ap (λ (l : ℕ). with_number act.Stored (xor l rest)) (sym (ap (xor_limit kind.Stored) at))) f
action_or slot act.Drop ps xs e f = bare_or kind.Drop slot act.Drop ps xs e (λ i rest. refl) f
action_or slot act.Turn ps xs e f = bare_or kind.Turn slot act.Turn ps xs e (λ i rest. refl) f

-- ---- a line

slot_err : (stream : Option Stream) (line : FaultLine) (s : ℕ) (a : Action) (xs : List Lexeme) (e : FaultScriptFault)
    → FailsAt (word_place (codes "slot") ∷ index_place s (slot_count stream)
    ∷ (action_places (slot_in stream s) a ++ end_place ∷ [])) xs e
    → slot_reading stream line xs ≡ Err e
unfolding slot_reading
slot_err stream line s a xs e f =
    then_err (named (codes "slot") (slot_count stream) xs) (action_line stream line) s
    (action_places (slot_in stream s) a ++ end_place ∷ []) e
    (named_or (codes "slot") s (slot_count stream) (action_places (slot_in stream s) a ++ end_place ∷ []) xs e f)
    (λ mid g. then_err (action_reading (slot_in stream s) mid)
    (λ action xs. ended (record line { slot = s; action = action }) xs) a (end_place ∷ []) e
    (action_or (slot_in stream s) a (end_place ∷ []) mid e g)
    (λ rest h. ap (λ t. t >>= (λ _ xs. Ok (record line { slot = s; action = a }, xs))) (end_err rest e h)))

-- the fault of a token is the line's
pub line_refused : (cases : Cases) (l : FaultLine) (xs : List Lexeme) (e : FaultScriptFault)
    → FailsAt (places cases l) xs e → line_reading cases xs ≡ Err e
unfolding line_reading
line_refused cases l xs e f =
    let stream = stream_in cases l.case l.hart in
    let last : List Place = word_place (codes "slot") ∷ index_place l.slot (slot_count stream)
    ∷ (action_places (slot_in stream l.slot) l.action ++ end_place ∷ []) in
    let pass : List Place = word_place (codes "pass") ∷ pass_place l.pass cases.passes ∷ last in
    let case : List Place = word_place (codes "case") ∷ index_place l.case (length cases.cases) ∷ pass in
    then_err (named (codes "hart") cases.harts xs) (case_line cases) l.hart case e
    (named_or (codes "hart") l.hart cases.harts case xs e f)
    (λ r g. then_err (named (codes "case") (length cases.cases) r) (pass_line cases l.hart) l.case pass e
    (named_or (codes "case") l.case (length cases.cases) pass r e g)
    (λ r g. then_err (named_pass cases.passes r)
    (λ p xs. slot_reading stream (begun l.hart l.case p) xs) l.pass last e
    (named_pass_or l.pass cases.passes last r e g)
    (λ r g. slot_err stream (begun l.hart l.case l.pass) l.slot l.action r e g)))
