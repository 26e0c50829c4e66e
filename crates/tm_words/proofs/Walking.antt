-- How the parse goes over one word, and over the two words of an option.
use Rattle.std.proofs.Common.{◌≡◌, ◌∙◌, ◌==◌, ◌&&◌, ℕ, Bool, cond, true, false, refl, sym, ap}
use Rattle.std.proofs.Common.{ap₂, List, [], ◌∷◌, Option, Some, None}
use Rattle.std.proofs.Common.{codes, true≢false, inl, inr}
use Rattle.std.specs.Str.{bytes_eq}
use Rattle.std.specs.Prelude.{option_and_then, nat_lt}
use Rattle.std.specs.Option.{option_map_or}
use Rattle.clap.specs.Lexer.{name_and_value, long_of, short_of, long_of_rest, short_of_rest, strip_byte}
use Rattle.clap.specs.Walk.{Text, Rule, Row, Held, Waiting, idle, option, positional, Walk, Step, value, next, walked}
use Rattle.clap.specs.Walk.{word_met, settled, settled_rows, arg_by_id, arg_by_long, arg_by_index, after_step}
use Rattle.clap.specs.Walk.{after_flag, long_met, long_or_other, short_or_plain, subcommand_or_other, plain_word}
use Rattle.clap.specs.Walk.{positional_held, used, is_pending, takes_several, pushed}
use Rattle.clap.specs.Kinds.{Kinds, or_else}
use Rattle.clap.specs.Faults.{turn_fault, word_fault, other_fault, flag_word_fault, bundle_fault, step_fault}
use Rattle.clap.specs.Faults.{positional_fault, settle_fault, use_fault, react_fault, long_fault}
use Rattle.clap.specs.declared.error.kind.ErrorKind.TheVariants as kind
use Rattle.tm_words.specs.Words.{is_name}
use Rattle.tm_words.specs.Form.{is_among}
use Rattle.tm_words.proofs.Plain.{and-false, text_is, not_false, or_else-nil, is_nil, false_or_true}
use Rattle.tm_words.proofs.Rules.{name_arg, opt, rules_of, built_shape, are_good, id_is}
use Rattle.tm_words.proofs.Rules.{long_is, no_long}
use Rattle.tm_words.proofs.Uses.{Use, settle, clash, clash_is}
use Rattle.tm_words.proofs.Uses.Use.{nothing, named, valued}

-- ---- between two parts

-- the argument whose last use isn't among the rows yet
abbrev pub pending_of : Use → Option (Text × List Text)
pending_of nothing = None
pending_of (named n) = Some (codes "names", n ∷ [])
pending_of (valued o v) = Some (o, v ∷ [])

abbrev pub held_at : List Row → Use → Held
held_at rows u = record { rows = rows; pending = pending_of u; skip = 0 }

-- what waits behind a name, and else
abbrev pub calm : Bool → Waiting
calm true = positional
calm false = idle

-- the rows without the last use, and whether it is of a name
abbrev pub between : List Row → Use → Bool → Walk
between rows u b =
    record { held = held_at rows u; waiting = calm b; position = 1; is_trailing = false; stopped = None }

-- behind `--`
abbrev pub trailing : List Row → Use → Bool → Walk
trailing rows u b = record { held = held_at rows u; waiting = calm b; position = 1; is_trailing = true; stopped = None }

-- behind an option without a value in its word
abbrev pub bare : List Row → Text → Held
bare rows o = record { rows = rows; pending = Some (o, []); skip = 0 }

abbrev pub awaiting : List Row → Text → Walk
awaiting rows o =
    record { held = bare rows o; waiting = option o; position = 1; is_trailing = false; stopped = None }

-- behind `--`, where a value has to be
abbrev pub stuck : List Row → Text → Walk
stuck rows o = record { held = bare rows o; waiting = option o; position = 1; is_trailing = true; stopped = None }

-- ---- a word that begins with no dash

no_dashes : (x : ℕ) (xs : List ℕ) → (x == 45) ≡ false → bytes_eq (x ∷ xs) (45 ∷ 45 ∷ []) ≡ false
no_dashes x xs e = ap (λ b. b && bytes_eq xs (45 ∷ [])) e

no_long_word : (x : ℕ) (xs : List ℕ) → (x == 45) ≡ false → long_of (x ∷ xs) ≡ None
no_long_word x xs e = ap (λ b. option_and_then long_of_rest (option_and_then (strip_byte 45) (cond b (Some xs) None))) e

no_short_word : (x : ℕ) (xs : List ℕ) → (x == 45) ≡ false → short_of (x ∷ xs) ≡ None
no_short_word x xs e = ap (λ b. option_and_then short_of_rest (cond b (Some xs) None)) e

-- the last use is of names, or of one of these options
abbrev pub is_use_of : List Text → Use → Bool
is_use_of os nothing = true
is_use_of os (named n) = true
is_use_of os (valued o v) = is_among os o

module _ (os : List Text) (good : are_good os ≡ true) (name : Text) where
  pub settled_is : (rows : List Row) (u : Use) → is_use_of os u ≡ true
      → settled_rows (rules_of os) (pending_of u) rows ≡ settle rows u
  settled_is rows nothing e = refl
  settled_is rows (named n) e = refl
  settled_is rows (valued o v) e = rw (id_is os o good e) refl

  pub fault_is : (rows : List Row) (u : Use) → is_use_of os u ≡ true
      → settle_fault (rules_of os) false (held_at rows u) ≡ clash rows u
  fault_is rows nothing e = refl
  fault_is rows (named n) e = refl
  fault_is rows (valued o v) e = rw (id_is os o good e) (clash_is o v rows)

  -- an option without a value at all
  pub bare_fault : (rows : List Row) (o : Text) → is_among os o ≡ true
      → settle_fault (rules_of os) false (bare rows o) ≡ kind.InvalidValue ∷ []
  bare_fault rows o e = rw (id_is os o good e) refl

  -- ---- a word that begins with no dash

  plain_met : (wt : Waiting) (h : Held) (x : ℕ) (xs : List ℕ) → (x == 45) ≡ false
      → subcommand_or_other (rules_of os) None wt 1 (x ∷ xs) h ≡ plain_word (rules_of os) wt (x ∷ xs) h
  plain_met wt h x xs e =
      ap (λ t. cond t (h, Rattle.clap.specs.Walk.trailing 1) (long_or_other (rules_of os) wt (x ∷ xs) (long_of (x ∷ xs))
      h)) (no_dashes x xs e)
      ∙ ap (λ o. long_or_other (rules_of os) wt (x ∷ xs) o h) (no_long_word x xs e)
      ∙ ap (λ o. short_or_plain (rules_of os) wt (x ∷ xs) o h) (no_short_word x xs e)

  plain_fault : (h : Held) (x : ℕ) (xs : List ℕ) → (x == 45) ≡ false
      → other_fault (built_shape name os) None (x ∷ xs) h ≡ []
  plain_fault h x xs e =
      ap (λ t. cond t [] (flag_word_fault (rules_of os) false (long_of (x ∷ xs)) (x ∷ xs) h)) (no_dashes x xs e)
      ∙ ap (λ o. flag_word_fault (rules_of os) false o (x ∷ xs) h) (no_long_word x xs e)
      ∙ ap (λ o. option_map_or (λ flags. bundle_fault (rules_of os) false flags h) o []) (no_short_word x xs e)

  -- ---- a name

  name_met : (h : Held) (b : Bool) (w : Text) → is_name w ≡ true
      → word_met (rules_of os) [] false (calm b) 1 w h ≡ (h, value)
  name_met h b [] e = absurd (true≢false (sym e))
  name_met h true (x ∷ xs) e = plain_met positional h x xs (not_false (x == 45) e)
  name_met h false (x ∷ xs) e = plain_met idle h x xs (not_false (x == 45) e)

  name_word : (h : Held) (b : Bool) (w : Text) → is_name w ≡ true
      → word_fault (built_shape name os) [] false (calm b) w h ≡ []
  name_word h b [] e = absurd (true≢false (sym e))
  name_word h true (x ∷ xs) e = plain_fault h x xs (not_false (x == 45) e)
  name_word h false (x ∷ xs) e = plain_fault h x xs (not_false (x == 45) e)

  -- a name goes to the argument of names
  name_held : (rows : List Row) (u : Use) (w : Text) → is_use_of os u ≡ true
      → positional_held (rules_of os) name_arg w (held_at rows u) ≡ held_at (settle rows u) (named w)
  name_held rows u w ok =
      ap (λ t. pushed (codes "names") w (cond t (held_at rows u) (settled (rules_of os) (held_at rows u)))) (and-false
      (is_pending name_arg (pending_of u)))
      ∙ ap (λ rs. held_at rs (named w)) (settled_is rows u ok)

  name_turn : (rows : List Row) (u : Use) → is_use_of os u ≡ true
      → positional_fault (rules_of os) false name_arg (held_at rows u) ≡ clash rows u
  name_turn rows u ok =
      ap (λ t. cond t [] (settle_fault (rules_of os) false (held_at rows u))) (and-false (is_pending name_arg
      (pending_of u))) ∙ fault_is rows u ok

  pub name_walked : (rows : List Row) (u : Use) (b : Bool) (w : Text) → is_use_of os u ≡ true → is_name w ≡ true
      → walked (rules_of os) [] (between rows u b) w ≡ between (settle rows u) (named w) true
  unfolding walked
  name_walked rows u b w ok e =
      ap (λ (m : Held × Step). after_step (rules_of os) w (between rows u b) m.0 m.1) (name_met (held_at rows u) b w e)
      ∙ ap (λ (h : Held). record {
        held =
            h;
        waiting = positional;
        position = 1;
        is_trailing = false;
        stopped = None;
      }) (name_held rows u w ok)

  pub name_fault : (rows : List Row) (u : Use) (b : Bool) (w : Text) → is_use_of os u ≡ true → is_name w ≡ true
      → turn_fault (built_shape name os) [] (between rows u b) w ≡ clash rows u
  name_fault rows u b w ok e =
      ap₂ (λ k (m : Held × Step). or_else k (step_fault (built_shape name os) 1 m.0 m.1)) (name_word (held_at rows u) b
      w e) (name_met (held_at rows u) b w e)
      ∙ name_turn rows u ok

  -- ---- a name behind `--`

  pub later_walked : (rows : List Row) (u : Use) (b : Bool) (w : Text) → is_use_of os u ≡ true
      → walked (rules_of os) [] (trailing rows u b) w ≡ trailing (settle rows u) (named w) true
  unfolding walked
  later_walked rows u b w ok =
      ap (λ (h : Held). record {
        held =
            h;
        waiting = positional;
        position = 1;
        is_trailing = true;
        stopped = None;
      }) (name_held rows u w ok)

  pub later_fault : (rows : List Row) (u : Use) (b : Bool) (w : Text) → is_use_of os u ≡ true
      → turn_fault (built_shape name os) [] (trailing rows u b) w ≡ clash rows u
  later_fault rows u b w ok = name_turn rows u ok

  -- ---- `--`

  pub ends_walked : (rows : List Row) (u : Use) (b : Bool)
      → walked (rules_of os) [] (between rows u b) (45 ∷ 45 ∷ []) ≡ trailing rows u b
  unfolding walked
  ends_walked rows u true = refl
  ends_walked rows u false = refl

  pub ends_fault : (rows : List Row) (u : Use) (b : Bool)
      → turn_fault (built_shape name os) [] (between rows u b) (45 ∷ 45 ∷ []) ≡ []
  ends_fault rows u true = refl
  ends_fault rows u false = refl

  -- ---- an option

  -- what a word of two dashes comes to, by the argument that it names and its value
  abbrev long_step : Waiting → Text → Walk → Option Rule → Option Text → Held → Walk
  long_step wt w at r v h =
      let m = long_met (rules_of os) r v h in
      let t = after_flag (rules_of os) wt w m.0 m.1 in
      after_step (rules_of os) w at t.0 t.1

  abbrev long_turn : Waiting → Text → Option Rule → Option Text → Held → Kinds
  long_turn wt w r v h =
      let m = long_met (rules_of os) r v h in
      let t = after_flag (rules_of os) wt w m.0 m.1 in
      or_else (long_fault (rules_of os) false r v h) (step_fault (built_shape name os) 1 t.0 t.1)

  -- where the bytes behind two dashes are read as a name, and a value or none
  module _ (x : ℕ) (xs : List ℕ) (o : Text) (among : is_among os o ≡ true) where
    abbrev word : Text
    word = 45 ∷ 45 ∷ x ∷ xs

    by_option : (wt : Waiting) (at : Walk) (h : Held) (v : Option Text) → name_and_value (x ∷ xs) ≡ (o, v)
        → long_step wt word at (arg_by_long (rules_of os) (name_and_value (x ∷ xs)).0) (name_and_value (x ∷ xs)).1 h ≡
        long_step wt word at (Some (opt o)) v h
    by_option wt at h v cut =
        ap (λ (p : Text × Option Text). long_step wt word at (arg_by_long (rules_of os) p.0) p.1 h) cut ∙ ap (λ r.
        long_step wt word at r v h) (long_is os o among)

    turn_by_option : (wt : Waiting) (h : Held) (v : Option Text) → name_and_value (x ∷ xs) ≡ (o, v)
        → long_turn wt word (arg_by_long (rules_of os) (name_and_value (x ∷ xs)).0) (name_and_value (x ∷ xs)).1 h ≡
        long_turn wt word (Some (opt o)) v h
    turn_by_option wt h v cut =
        ap (λ (p : Text × Option Text). long_turn wt word (arg_by_long (rules_of os) p.0) p.1 h) cut ∙ ap (λ r.
        long_turn wt word r v h) (long_is os o among)

    pub bare_walked : (rows : List Row) (u : Use) (b : Bool) → is_use_of os u ≡ true
        → name_and_value (x ∷ xs) ≡ (o, None)
        → walked (rules_of os) [] (between rows u b) word ≡ awaiting (settle rows u) o
    unfolding walked
    bare_walked rows u true ok cut =
        by_option positional (between rows u true) (held_at rows u) None cut ∙ ap (λ rs. awaiting rs o) (settled_is rows
        u ok)
    bare_walked rows u false ok cut =
        by_option idle (between rows u false) (held_at rows u) None cut ∙ ap (λ rs. awaiting rs o) (settled_is rows u
        ok)

    pub bare_turn : (rows : List Row) (u : Use) (b : Bool) → is_use_of os u ≡ true → name_and_value (x ∷ xs) ≡ (o, None)
        → turn_fault (built_shape name os) [] (between rows u b) word ≡ clash rows u
    bare_turn rows u true ok cut =
        turn_by_option positional (held_at rows u) None cut ∙ or_else-nil (settle_fault (rules_of os) false (held_at
        rows u)) ∙ fault_is rows u ok
    bare_turn rows u false ok cut =
        turn_by_option idle (held_at rows u) None cut ∙ or_else-nil (settle_fault (rules_of os) false (held_at rows u))
        ∙ fault_is rows u ok

    -- the faults of the last use and of this one
    two_faults : (rows : List Row) (u : Use) (v : Text) → is_use_of os u ≡ true
        → or_else (react_fault (rules_of os) false (opt o) (v ∷ []) (held_at rows u)) [] ≡ or_else (clash rows u) (clash
        (settle rows u) (valued o v))
    two_faults rows u v ok =
        or_else-nil (react_fault (rules_of os) false (opt o) (v ∷ []) (held_at rows u))
        ∙ ap₂ or_else (fault_is rows u ok) (ap (λ r. use_fault false (opt o) (v ∷ []) r) (settled_is rows u ok) ∙
        clash_is o v (settle rows u))

    pub joined_walked : (rows : List Row) (u : Use) (b : Bool) (v : Text) → is_use_of os u ≡ true
        → name_and_value (x ∷ xs) ≡ (o, Some v)
        → walked (rules_of os) [] (between rows u b) word ≡ between (settle (settle rows u) (valued o v)) nothing false
    unfolding walked
    joined_walked rows u true v ok cut =
        by_option positional (between rows u true) (held_at rows u) (Some v) cut ∙ ap (λ rs. between (settle rs (valued
        o v)) nothing false) (settled_is rows u ok)
    joined_walked rows u false v ok cut =
        by_option idle (between rows u false) (held_at rows u) (Some v) cut ∙ ap (λ rs. between (settle rs (valued o v))
        nothing false) (settled_is rows u ok)

    pub joined_turn : (rows : List Row) (u : Use) (b : Bool) (v : Text) → is_use_of os u ≡ true
        → name_and_value (x ∷ xs) ≡ (o, Some v)
        → turn_fault (built_shape name os) [] (between rows u b) word ≡ or_else (clash rows u) (clash (settle rows u)
        (valued o v))
    joined_turn rows u true v ok cut = turn_by_option positional (held_at rows u) (Some v) cut ∙ two_faults rows u v ok
    joined_turn rows u false v ok cut = turn_by_option idle (held_at rows u) (Some v) cut ∙ two_faults rows u v ok

    -- where a value has to be
    pub unanswered_by : (rows : List Row) (p : Text) (v : Option Text) → is_among os p ≡ true
        → name_and_value (x ∷ xs) ≡ (o, v)
        → is_nil (turn_fault (built_shape name os) [] (awaiting rows p) word) ≡ false
    unanswered_by rows p None before cut =
        ap is_nil (turn_by_option (option p) (bare rows p) None cut) ∙ ap (λ k. is_nil (or_else k [])) (bare_fault rows
        p before)
    unanswered_by rows p (Some v) before cut =
        ap is_nil (turn_by_option (option p) (bare rows p) (Some v) cut)
        ∙ ap (λ k. is_nil (or_else (or_else k (use_fault false (opt o) (v ∷ []) (settled (rules_of os) (bare rows
        p)).rows)) [])) (bare_fault rows p before)

  turn_of_none : (x : ℕ) (xs : List ℕ) (o : Text) (wt : Waiting) (h : Held) (v : Option Text) → is_among os o ≡ false
      → name_and_value (x ∷ xs) ≡ (o, v)
      → is_nil (long_turn wt (45 ∷ 45 ∷ x ∷ xs) (arg_by_long (rules_of os) (name_and_value (x ∷ xs)).0) (name_and_value
      (x ∷ xs)).1 h) ≡ false
  turn_of_none x xs o wt h v none cut =
      ap (λ (p : Text × Option Text). is_nil (long_turn wt (45 ∷ 45 ∷ x ∷ xs) (arg_by_long (rules_of os) p.0) p.1 h))
      cut
      ∙ ap (λ r. is_nil (long_turn wt (45 ∷ 45 ∷ x ∷ xs) r v h)) (no_long os o none)

  -- a word of no option
  pub unknown_turn : (rows : List Row) (u : Use) (b : Bool) (x : ℕ) (xs : List ℕ) (o : Text) (v : Option Text)
      → is_among os o ≡ false
      → name_and_value (x ∷ xs) ≡ (o, v) → is_nil (turn_fault (built_shape name os) [] (between rows u b) (45 ∷ 45 ∷ x ∷
      xs)) ≡ false
  unknown_turn rows u true x xs o v none cut = turn_of_none x xs o positional (held_at rows u) v none cut
  unknown_turn rows u false x xs o v none cut = turn_of_none x xs o idle (held_at rows u) v none cut

  -- an option where a value has to be
  pub unanswered_turn : (rows : List Row) (o : Text) → is_among os o ≡ true
      → (x : ℕ) (xs : List ℕ) (p : Text) (v : Option Text)
      → name_and_value (x ∷ xs) ≡ (p, v) → is_nil (turn_fault (built_shape name os) [] (awaiting rows o) (45 ∷ 45 ∷ x ∷
      xs)) ≡ false
  unanswered_turn rows o among x xs p v cut = elim (false_or_true (is_among os p)) [
    | inl known ↦ unanswered_by x xs p known rows o v among cut
    | inr none ↦ turn_of_none x xs p (option o) (bare rows o) v none cut
  ]

  -- ---- an option's value in a word of its own

  -- the value goes to its option
  value_word : (rows : List Row) (o v : Text) → is_among os o ≡ true
      → plain_word (rules_of os) (option o) v (bare rows o) ≡ (held_at rows (valued o v), next idle)
  value_word rows o v among =
      ap (λ r. (
        (Rattle.clap.specs.Walk.option_word r o v (bare rows o)).0,
        next (Rattle.clap.specs.Walk.option_word r o
            v (bare rows o)).1,
      )) (id_is os o good among)
      ∙ ap (λ t. (held_at rows (valued o v), next (cond (nat_lt (cond t 1 0) 1) (option o) idle))) (text_is o)

  pub value_walked : (rows : List Row) (o v : Text) → is_among os o ≡ true → is_name v ≡ true
      → walked (rules_of os) [] (awaiting rows o) v ≡ between rows (valued o v) false
  unfolding walked
  value_walked rows o [] among e = absurd (true≢false (sym e))
  value_walked rows o (y ∷ ys) among e =
      ap (λ (m : Held × Step). after_step (rules_of os) (y ∷ ys) (awaiting rows o) m.0 m.1)
      (plain_met (option o) (bare rows o) y ys (not_false (y == 45) e) ∙ value_word rows o (y ∷ ys) among)

  pub value_turn : (rows : List Row) (o v : Text) → is_among os o ≡ true → is_name v ≡ true
      → turn_fault (built_shape name os) [] (awaiting rows o) v ≡ []
  value_turn rows o [] among e = absurd (true≢false (sym e))
  value_turn rows o (y ∷ ys) among e =
      ap₂ (λ k (m : Held × Step). or_else k (step_fault (built_shape name os) 1 m.0 m.1))
      (plain_fault (bare rows o) y ys (not_false (y == 45) e))
      (plain_met (option o) (bare rows o) y ys (not_false (y == 45) e) ∙ value_word rows o (y ∷ ys) among)

  -- `--` where a value has to be
  pub ends_unanswered : (rows : List Row) (o : Text)
      → walked (rules_of os) [] (awaiting rows o) (45 ∷ 45 ∷ []) ≡ stuck rows o
  unfolding walked
  ends_unanswered rows o = refl

  pub ends_unanswered_turn : (rows : List Row) (o : Text)
      → turn_fault (built_shape name os) [] (awaiting rows o) (45 ∷ 45 ∷ []) ≡ []
  ends_unanswered_turn rows o = refl

  pub stuck_turn : (rows : List Row) (o : Text) (w : Text) → is_among os o ≡ true
      → is_nil (turn_fault (built_shape name os) [] (stuck rows o) w) ≡ false
  stuck_turn rows o w among =
      ap (λ t. is_nil (cond t [] (settle_fault (rules_of os) false (bare rows o)))) (and-false (is_pending name_arg
      (Some (o, []))))
      ∙ ap is_nil (bare_fault rows o among)
