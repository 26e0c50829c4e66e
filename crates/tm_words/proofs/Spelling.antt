-- What the parse of words comes to, by the parts that they spell.
use Rattle.std.proofs.Common.{◌≡◌, ◌∙◌, ◌&&◌, ℕ, Bool, true, false}
use Rattle.std.proofs.Common.{refl, sym, ap, ap₂, List, [], ◌∷◌, ◌++◌, map, Option}
use Rattle.std.proofs.Common.{Some, None, true≢false, inl, inr}
use Rattle.std.specs.Str.{bytes_eq}
use Rattle.std.specs.List.{list_all, fold}
use Rattle.clap.specs.Lexer.{name_and_value}
use Rattle.clap.specs.Walk.{Text, Row, Walk, walked, settled_rows}
use Rattle.clap.specs.Kinds.{Kinds, or_else}
use Rattle.clap.specs.Faults.{turn_fault, settle_fault, walk_fault}
use Rattle.clap.proofs.LexerLemmas.{name_and_value-at, name_and_value-without}
use Rattle.tm_words.specs.Words.{is_name}
use Rattle.tm_words.specs.Form.{Part, is_among, all_spelled, ending}
use Rattle.tm_words.specs.Form.{is_part_of}
use Rattle.tm_words.specs.Form.Part.{a_name, apart, joined}
use Rattle.tm_words.specs.Parser.{has_fit_value, is_clean, are_fit}
use Rattle.tm_words.proofs.Plain.{both_nil, is_nil, false_or_true, lacks, or_else-assoc, or_else-nil}
use Rattle.tm_words.proofs.Rules.{rules_of, built_shape, are_good, good_among, no_equals}
use Rattle.tm_words.proofs.Uses.{Use, settle, clash, settle_all, clash_all}
use Rattle.tm_words.proofs.Uses.Use.{nothing, named, valued}
use Rattle.tm_words.proofs.Parts.{Behind, Word, Cut, CutValue, all_uses, behind_dashes, clean_word, not_dashes}
use Rattle.tm_words.proofs.Parts.{fit_names, cut_nothing, cut_ends, cut_name, cut_joined_word, cut_apart}
use Rattle.tm_words.proofs.Parts.Behind.{alone, with_value}
use Rattle.tm_words.proofs.Parts.Word.{plain, dashes}
use Rattle.tm_words.proofs.Walking as walking
use Rattle.tm_words.proofs.Walking.{between, trailing, awaiting, stuck, is_use_of}
use Rattle.std.proofs.lemmas.Bool.{and_parts}

-- ---- the parse of words

module _ (os : List Text) (good : are_good os ≡ true) (name : Text) where
  -- all faults of words from a place of the walk on
  abbrev pub total : Walk → List Text → Kinds
  total w words =
      or_else (walk_fault (built_shape name os) [] w words) (settle_fault (rules_of os) false (fold (walked (rules_of
      os) []) w words).held)

  -- the rows at their end
  abbrev pub end_rows : Walk → List Text → List Row
  end_rows w words =
      settled_rows (rules_of os) (fold (walked (rules_of os) []) w words).held.pending (fold (walked (rules_of os) []) w
      words).held.rows

  pub total_next : (w : Walk) (word : Text) (words : List Text)
      → total w (word ∷ words) ≡ or_else (turn_fault (built_shape name os) [] w word) (total (walked (rules_of os) [] w
      word) words)
  unfolding walk_fault
  total_next w word words =
      or_else-assoc (turn_fault (built_shape name os) [] w word) (walk_fault (built_shape name os) [] (walked (rules_of
      os) [] w word) words) _

  pub total_end : (w : Walk) → total w [] ≡ settle_fault (rules_of os) false w.held
  unfolding walk_fault
  total_end w = refl

  -- one word more, of a known turn
  pub total_by : (w v : Walk) (word : Text) (words : List Text) (ks : Kinds)
      → turn_fault (built_shape name os) [] w word ≡ ks
      → walked (rules_of os) [] w word ≡ v → total w (word ∷ words) ≡ or_else ks (total v words)
  total_by w v word words ks turn step = total_next w word words ∙ ap₂ (λ k x. or_else k (total x words)) turn step

  -- ---- words that spell parts

  behind_faults : (ns : List Text) (rows : List Row) (u : Use) (b : Bool) → is_use_of os u ≡ true
      → total (trailing rows u b) ns ≡ clash_all rows (u ∷ map named ns)
  unfolding clash_all
  behind_faults [] rows u b ok =
      total_end (trailing rows u b) ∙ walking.fault_is os good name rows u ok ∙ sym (or_else-nil (clash rows u))
  behind_faults (n ∷ ns) rows u b ok =
      total_by (trailing rows u b) (trailing (settle rows u) (named n) true) n ns (clash rows u) (walking.later_fault os
      good name rows u b n ok) (walking.later_walked os good name rows u b n ok)
      ∙ ap (or_else (clash rows u)) (behind_faults ns (settle rows u) (named n) true refl)

  behind_rows : (ns : List Text) (rows : List Row) (u : Use) (b : Bool) → is_use_of os u ≡ true
      → end_rows (trailing rows u b) ns ≡ settle_all rows (u ∷ map named ns)
  unfolding settle_all
  behind_rows [] rows u b ok = walking.settled_is os good name rows u ok
  behind_rows (n ∷ ns) rows u b ok =
      ap (λ w. end_rows w ns) (walking.later_walked os good name rows u b n ok) ∙ behind_rows ns (settle rows u) (named
      n) true refl

  cut_joined : (o v : Text) → is_among os o ≡ true → name_and_value (o ++ 61 ∷ v) ≡ (o, Some v)
  cut_joined o v among = name_and_value-at o v (lacks 61 o (no_equals o (good_among os o good among)))

  cut_alone : (o : Text) → is_among os o ≡ true → name_and_value o ≡ (o, None)
  cut_alone o among = name_and_value-without o (lacks 61 o (no_equals o (good_among os o good among)))

  no_empty : {X : Type 0} → is_among os [] ≡ true → X
  no_empty among = absurd (true≢false (sym (good_among os [] good among)))

  pub parts_faults : (parts : List Part) (rest : Option (List Text)) (rows : List Row) (u : Use) (b : Bool)
      → is_use_of os u ≡ true
      → list_all (is_part_of os) parts ≡ true
      → total (between rows u b) (all_spelled parts ++ ending rest) ≡ clash_all rows (u ∷ all_uses parts rest)
  unfolding clash_all
  parts_faults [] None rows u b ok fit =
      total_end (between rows u b) ∙ walking.fault_is os good name rows u ok ∙ sym (or_else-nil (clash rows u))
  parts_faults [] (Some ns) rows u b ok fit =
      total_by (between rows u b) (trailing rows u b) (45 ∷ 45 ∷ []) ns [] (walking.ends_fault os good name rows u b)
      (walking.ends_walked os good name rows u b)
      ∙ behind_faults ns rows u b ok
  parts_faults (a_name n ∷ ps) rest rows u b ok fit =
      let parts = and_parts (is_name n) (list_all (is_part_of os) ps) fit in
      total_by (between rows u b) (between (settle rows u) (named n) true) n (all_spelled ps ++ ending rest) (clash rows
      u)
      (walking.name_fault os good name rows u b n ok parts.0) (walking.name_walked os good name rows u b n ok parts.0)
      ∙ ap (or_else (clash rows u)) (parts_faults ps rest (settle rows u) (named n) true refl parts.1)
  parts_faults (apart [] v ∷ ps) rest rows u b ok fit =
      no_empty (and_parts (is_among os []) (is_name v) (and_parts (is_among os [] && is_name v)
      (list_all (is_part_of os) ps)
      fit).0).0
  parts_faults (apart (x ∷ xs) v ∷ ps) rest rows u b ok fit =
      let parts = and_parts (is_among os (x ∷ xs) && is_name v) (list_all (is_part_of os) ps) fit in
      let fine = and_parts (is_among os (x ∷ xs)) (is_name v) parts.0 in
      total_by (between rows u b) (awaiting (settle rows u) (x ∷ xs)) (45 ∷ 45 ∷ x ∷ xs) (v ∷ (all_spelled ps ++ ending
      rest)) (clash rows u)
      (walking.bare_turn os good name x xs (x ∷ xs) fine.0 rows u b ok (cut_alone (x ∷ xs) fine.0))
      (walking.bare_walked os good name x xs (x ∷ xs) fine.0 rows u b ok (cut_alone (x ∷ xs) fine.0))
      ∙ ap (or_else (clash rows u))
      (total_by (awaiting (settle rows u) (x ∷ xs)) (between (settle rows u) (valued (x ∷ xs) v) false) v (all_spelled
      ps ++ ending rest) []
      (walking.value_turn os good name (settle rows u) (x ∷ xs) v fine.0 fine.1) (walking.value_walked os good name
      (settle rows u) (x ∷ xs) v fine.0 fine.1)
      ∙ parts_faults ps rest (settle rows u) (valued (x ∷ xs) v) false fine.0 parts.1)
  parts_faults (joined [] v ∷ ps) rest rows u b ok fit =
      no_empty (and_parts (is_among os []) (is_name v) (and_parts (is_among os [] && is_name v)
      (list_all (is_part_of os) ps)
      fit).0).0
  parts_faults (joined (x ∷ xs) v ∷ ps) rest rows u b ok fit =
      let parts = and_parts (is_among os (x ∷ xs) && is_name v) (list_all (is_part_of os) ps) fit in
      let fine = and_parts (is_among os (x ∷ xs)) (is_name v) parts.0 in
      total_by (between rows u b) (between (settle (settle rows u) (valued (x ∷ xs) v)) nothing false) (45 ∷ 45 ∷ x ∷
      (xs ++ 61 ∷ v)) (all_spelled ps ++ ending rest)
      (or_else (clash rows u) (clash (settle rows u) (valued (x ∷ xs) v)))
      (walking.joined_turn os good name x (xs ++ 61 ∷ v) (x ∷ xs) fine.0 rows u b v ok (cut_joined (x ∷ xs) v fine.0))
      (walking.joined_walked os good name x (xs ++ 61 ∷ v) (x ∷ xs) fine.0 rows u b v ok (cut_joined (x ∷ xs) v fine.0))
      ∙ ap (or_else (or_else (clash rows u) (clash (settle rows u) (valued (x ∷ xs) v))))
      (parts_faults ps rest (settle (settle rows u) (valued (x ∷ xs) v)) nothing false refl parts.1)
      ∙ or_else-assoc (clash rows u) (clash (settle rows u) (valued (x ∷ xs) v)) _

  pub parts_rows : (parts : List Part) (rest : Option (List Text)) (rows : List Row) (u : Use) (b : Bool)
      → is_use_of os u ≡ true
      → list_all (is_part_of os) parts ≡ true
      → end_rows (between rows u b) (all_spelled parts ++ ending rest) ≡ settle_all rows (u ∷ all_uses parts rest)
  unfolding settle_all
  parts_rows [] None rows u b ok fit = walking.settled_is os good name rows u ok
  parts_rows [] (Some ns) rows u b ok fit =
      ap (λ w. end_rows w ns) (walking.ends_walked os good name rows u b) ∙ behind_rows ns rows u b ok
  parts_rows (a_name n ∷ ps) rest rows u b ok fit =
      let parts = and_parts (is_name n) (list_all (is_part_of os) ps) fit in
      ap (λ w. end_rows w (all_spelled ps ++ ending rest)) (walking.name_walked os good name rows u b n ok parts.0)
      ∙ parts_rows ps rest (settle rows u) (named n) true refl parts.1
  parts_rows (apart [] v ∷ ps) rest rows u b ok fit =
      no_empty (and_parts (is_among os []) (is_name v) (and_parts (is_among os [] && is_name v)
      (list_all (is_part_of os) ps)
      fit).0).0
  parts_rows (apart (x ∷ xs) v ∷ ps) rest rows u b ok fit =
      let parts = and_parts (is_among os (x ∷ xs) && is_name v) (list_all (is_part_of os) ps) fit in
      let fine = and_parts (is_among os (x ∷ xs)) (is_name v) parts.0 in
      ap (λ w. end_rows w (v ∷ (all_spelled ps ++ ending rest))) (walking.bare_walked os good name x xs (x ∷ xs) fine.0
      rows u b ok (cut_alone (x ∷ xs) fine.0))
      ∙ ap (λ w. end_rows w (all_spelled ps ++ ending rest)) (walking.value_walked os good name (settle rows u) (x ∷ xs)
      v fine.0 fine.1)
      ∙ parts_rows ps rest (settle rows u) (valued (x ∷ xs) v) false fine.0 parts.1
  parts_rows (joined [] v ∷ ps) rest rows u b ok fit =
      no_empty (and_parts (is_among os []) (is_name v) (and_parts (is_among os [] && is_name v)
      (list_all (is_part_of os) ps)
      fit).0).0
  parts_rows (joined (x ∷ xs) v ∷ ps) rest rows u b ok fit =
      let parts = and_parts (is_among os (x ∷ xs) && is_name v) (list_all (is_part_of os) ps) fit in
      let fine = and_parts (is_among os (x ∷ xs)) (is_name v) parts.0 in
      ap (λ w. end_rows w (all_spelled ps ++ ending rest)) (walking.joined_walked os good name x (xs ++ 61 ∷ v) (x ∷ xs)
      fine.0 rows u b v ok (cut_joined (x ∷ xs) v fine.0))
      ∙ parts_rows ps rest (settle (settle rows u) (valued (x ∷ xs) v)) nothing false refl parts.1

  -- ---- words without a fault

  -- words without a fault between parts are cut
  abbrev Goes : List Text → Type 0
  Goes ws = (rows : List Row) (u : Use) (b : Bool) → is_use_of os u ≡ true → are_fit false ws ≡ true
      → is_nil (total (between rows u b) ws) ≡ true → Cut os ws

  -- so are words where a value has to be
  abbrev Answers : List Text → Type 0
  Answers ws = (rows : List Row) (o : Text) → is_among os o ≡ true → are_fit false ws ≡ true
      → is_nil (total (awaiting rows o) ws) ≡ true → CutValue os ws

  -- a turn with a fault
  faulty : {X : Type 0} (w : Walk) (word : Text) (ws : List Text)
      → is_nil (turn_fault (built_shape name os) [] w word) ≡ false → is_nil (total w (word ∷ ws)) ≡ true → X
  faulty w word ws bad fine =
      let turn =
      both_nil (turn_fault (built_shape name os) [] w word) (total (walked (rules_of os) [] w word) ws) (ap is_nil
      (sym (total_next w word ws)) ∙ fine) in
      absurd (true≢false (sym turn.0 ∙ bad))

  -- the faults behind a turn without one
  after : (w v : Walk) (word : Text) (ws : List Text) → walked (rules_of os) [] w word ≡ v
      → is_nil (total w (word ∷ ws)) ≡ true → is_nil (total v ws) ≡ true
  after w v word ws step fine =
      let turn =
      both_nil (turn_fault (built_shape name os) [] w word) (total (walked (rules_of os) [] w word) ws) (ap is_nil
      (sym (total_next w word ws)) ∙ fine) in
      ap (λ x. is_nil (total x ws)) (sym step) ∙ turn.1

  -- a value that never comes
  stays_stuck : {X : Type 0} (ws : List Text) (rows : List Row) (o : Text) → is_among os o ≡ true
      → is_nil (total (stuck rows o) ws) ≡ true → X
  stays_stuck [] rows o among fine =
      absurd (true≢false (sym fine ∙ ap is_nil (total_end (stuck rows o) ∙ walking.bare_fault os good name rows o
      among)))
  stays_stuck (w ∷ ws) rows o among fine =
      faulty (stuck rows o) w ws (walking.stuck_turn os good name rows o w among) fine

  fit_parts : (w : Text) (ws : List Text) → are_fit false (w ∷ ws) ≡ true
      → (is_clean w ≡ true) × (are_fit (bytes_eq w (45 ∷ 45 ∷ [])) ws ≡ true)
  fit_parts w ws e = and_parts (is_clean w) (are_fit (bytes_eq w (45 ∷ 45 ∷ [])) ws) e

  -- behind a word that isn't `--`
  fit_rest : (w : Text) (ws : List Text) → are_fit false (w ∷ ws) ≡ true → bytes_eq w (45 ∷ 45 ∷ []) ≡ false
      → are_fit false ws ≡ true
  fit_rest w ws e other = ap (λ b. are_fit b ws) (sym other) ∙ (fit_parts w ws e).1

  option_word : (w : Text) (ws : List Text) → Goes ws → Answers ws → (x : ℕ) (xs : List ℕ) → w ≡ 45 ∷ 45 ∷ x ∷ xs
      → Behind (x ∷ xs)
      → (rows : List Row) (u : Use) (b : Bool) → is_use_of os u ≡ true → are_fit false ws ≡ true
      → is_nil (total (between rows u b) ((45 ∷ 45 ∷ x ∷ xs) ∷ ws)) ≡ true → Cut os (w ∷ ws)
  option_word w ws goes answers x xs is (alone cut) rows u b ok fit fine = elim (false_or_true (is_among os (x ∷ xs))) [
    | inl among ↦ cut_apart os w (x ∷ xs) ws is among (answers (settle rows u) (x ∷ xs) among fit
        (after (between rows u b) (awaiting (settle rows u) (x ∷ xs)) (45 ∷ 45 ∷ x ∷ xs) ws (walking.bare_walked os good
        name x xs (x ∷ xs) among rows u b ok cut) fine))
    | inr none ↦ faulty (between rows u b) (45 ∷ 45 ∷ x ∷ xs) ws (walking.unknown_turn os good name rows u b x xs (x ∷
        xs) None none cut) fine
  ]
  option_word w ws goes answers x xs is (with_value p v spells cut e) rows u b ok fit fine =
      elim (false_or_true (is_among os p)) [
        | inl among ↦ cut_joined_word os w p v ws (is ∙ ap (λ t. 45 ∷ 45 ∷ t) spells) among e
            (goes (settle (settle rows u) (valued p v)) nothing false refl fit
            (after (between rows u b) (between (settle (settle rows u) (valued p v)) nothing false)
            (45 ∷ 45 ∷ x ∷ xs) ws
            (walking.joined_walked os good name x xs p among rows u b v ok cut) fine))
        | inr none ↦ faulty (between rows u b) (45 ∷ 45 ∷ x ∷ xs) ws (walking.unknown_turn os good name rows u b x xs p
            (Some v) none cut) fine
      ]

  dashed_word : (w : Text) (ws : List Text) → Goes ws → Answers ws → (o : List ℕ) → w ≡ 45 ∷ 45 ∷ o
      → has_fit_value o ≡ true
      → (rows : List Row) (u : Use) (b : Bool) → is_use_of os u ≡ true → are_fit false (w ∷ ws) ≡ true
      → is_nil (total (between rows u b) (w ∷ ws)) ≡ true → Cut os (w ∷ ws)
  dashed_word w ws goes answers [] is value rows u b ok fit fine =
      cut_ends os w ws is (fit_names ws (ap (λ t. are_fit (bytes_eq t (45 ∷ 45 ∷ [])) ws) (sym is) ∙ (fit_parts w ws
      fit).1))
  dashed_word w ws goes answers (x ∷ xs) is value rows u b ok fit fine =
      option_word w ws goes answers x xs is (behind_dashes (x ∷ xs) value) rows u b ok
      (fit_rest w ws fit (ap (λ t. bytes_eq t (45 ∷ 45 ∷ [])) is)) (ap (λ t. is_nil (total (between rows u b) (t ∷ ws)))
      (sym is) ∙ fine)

  goes_on : (w : Text) (ws : List Text) → Goes ws → Answers ws → Goes (w ∷ ws)
  goes_on w ws goes answers rows u b ok fit fine = by (clean_word w (fit_parts w ws fit).0)
    where
      by : Word w → Cut os (w ∷ ws)
      by (plain e) = cut_name os w ws e (goes (settle rows u) (named w) true refl (fit_rest w ws fit (not_dashes w e).1)
          (after (between rows u b) (between (settle rows u) (named w) true) w ws (walking.name_walked os good name rows
          u b w ok e) fine))
      by (dashes o is value) = dashed_word w ws goes answers o is value rows u b ok fit fine

  unanswered : {X : Type 0} (w : Text) (ws : List Text) (o : List ℕ) → w ≡ 45 ∷ 45 ∷ o → has_fit_value o ≡ true
      → (rows : List Row) (p : Text) → is_among os p ≡ true → is_nil (total (awaiting rows p) (w ∷ ws)) ≡ true → X
  unanswered {X = X} w ws [] is value rows p among fine =
      stays_stuck ws rows p among (after (awaiting rows p) (stuck rows p) (45 ∷ 45 ∷ []) ws (walking.ends_unanswered os
      good name rows p)
      (ap (λ t. is_nil (total (awaiting rows p) (t ∷ ws))) (sym is) ∙ fine))
  unanswered {X = X} w ws (x ∷ xs) is value rows p among fine = by (behind_dashes (x ∷ xs) value)
    where
      here : is_nil (total (awaiting rows p) ((45 ∷ 45 ∷ x ∷ xs) ∷ ws)) ≡ true
      here = ap (λ t. is_nil (total (awaiting rows p) (t ∷ ws))) (sym is) ∙ fine

      by : Behind (x ∷ xs) → X
      by (alone cut) =
          faulty (awaiting rows p) (45 ∷ 45 ∷ x ∷ xs) ws (walking.unanswered_turn os good name rows p among x xs (x ∷
          xs) None cut) here
      by (with_value q v spells cut e) =
          faulty (awaiting rows p) (45 ∷ 45 ∷ x ∷ xs) ws (walking.unanswered_turn os good name rows p among x xs q (Some
          v) cut) here

  answers_by : (w : Text) (ws : List Text) → Goes ws → Answers (w ∷ ws)
  answers_by w ws goes rows o among fit fine = by (clean_word w (fit_parts w ws fit).0)
    where
      by : Word w → CutValue os (w ∷ ws)
      by (plain e) = record {
        value = w;
        more = ws;
        begins = refl;
        fit_value = e;
        cut = goes rows (valued o w) false among (fit_rest w ws fit (not_dashes w e).1)
            (after (awaiting rows o) (between rows (valued o w) false) w ws (walking.value_walked os good name rows o w
            among e) fine);
      }
      by (dashes p is value) = unanswered w ws p is value rows o among fine

  no_answer : Answers []
  no_answer rows o among fit fine =
      absurd (true≢false (sym fine ∙ ap is_nil (total_end (awaiting rows o) ∙ walking.bare_fault os good name rows o
      among)))

  cuts : (ws : List Text) → Goes ws × Answers ws
  cuts [] = (λ rows u b ok fit fine. cut_nothing os, no_answer)
  cuts (w ∷ ws) =
      let rest = cuts ws in
      (goes_on w ws rest.0 rest.1, answers_by w ws rest.0)

  pub words_cut : (ws : List Text) → are_fit false ws ≡ true → is_nil (total (between [] nothing false) ws) ≡ true
      → Cut os ws
  words_cut ws fit fine = (cuts ws).0 [] nothing false refl fit fine
