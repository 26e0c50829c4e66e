-- What uses of arguments, one behind the other, leave in the rows of a parse.
use Rattle.std.proofs.Common.{◌≡◌, ◌∙◌, ◌&&◌, ◌||◌, not, Bool, cond, if◌then◌else◌, true, false}
use Rattle.std.proofs.Common.{refl, sym, ap, ap₂, List, [], ◌∷◌, ◌++◌, Option, Some, None}
use Rattle.std.proofs.Common.{find, is_some, codes, true≢false, append_assoc, append-nil, slice_get, option_map}
use Rattle.std.proofs.Common.{option_and_then}
use Rattle.std.specs.Option.{unwrap_or}
use Rattle.std.specs.Str.{bytes_eq}
use Rattle.clap.specs.Walk.{Text, Row, with_values, without, used, has_row, first_of, all_of}
use Rattle.clap.specs.Walk.{reading_by}
use Rattle.clap.specs.Kinds.{Kinds, or_else}
use Rattle.clap.specs.Faults.{use_fault}
use Rattle.clap.specs.declared.builder.value_parser.Reading.{Reading}
use Rattle.clap.specs.declared.parser.matches.ValueSource.{ValueSource}
use Rattle.clap.specs.declared.error.kind.ErrorKind.TheVariants as kind
use Rattle.tm_words.specs.Form.{Given, is_among, come_once, value_of}
use Rattle.tm_words.specs.Parser.{names_found}
use Rattle.tm_words.proofs.Plain.{same_text, text_is, swapped, is_nil}
use Rattle.tm_words.proofs.Rules.{name_arg, opt, are_good, good_among, not_names}
use Rattle.std.proofs.lemmas.Bool.{and_parts}

-- ---- the values of an id

abbrev has_id : Text → Row → Bool
has_id id r = bytes_eq r.id id

first_value : Option (List Text) → Option Text
first_value None = None
first_value (Some vs) = slice_get vs 0

first_by_all : (id : Text) (rows : List Row) → first_of id rows ≡ first_value (all_of id rows)
unfolding first_value
first_by_all id rows = go (find (has_id id) rows)
  where
    go : (o : Option Row)
        → option_and_then (λ (r : Row). slice_get r.values 0) o ≡ first_value (option_map (λ (r : Row). r.values) o)
    go None = refl
    go (Some r) = refl

pub row_by_all : (id : Text) (rows : List Row) → has_row id rows ≡ is_some (all_of id rows)
row_by_all id [] = refl
row_by_all id (r ∷ rows) = go (has_id id r) (row_by_all id rows)
  where
    go : (b : Bool) → has_row id rows ≡ is_some (all_of id rows)
        → (b || has_row id rows) ≡ is_some (option_map (λ (x : Row). x.values) (cond b (Some r) (find (has_id id)
        rows)))
    go true e = refl
    go false e = e

pub none_kept : (id : Text) (rows : List Row) → has_row id rows ≡ false → without id rows ≡ rows
none_kept id [] e = refl
none_kept id (r ∷ rows) e = go (has_id id r) (none_kept id rows) e
  where
    go : (b : Bool) → (has_row id rows ≡ false → without id rows ≡ rows) → (b || has_row id rows) ≡ false
        → cond b ([] ++ rows) (r ∷ without id rows) ≡ r ∷ rows
    go true rest e = absurd (true≢false e)
    go false rest e = ap (λ rs. r ∷ rs) (rest e)

module _ (how : Reading) (source : ValueSource) where
  -- the values of the id that gets some
  pub all_of_this : (id : Text) (vs : List Text) (rows : List Row)
      → all_of id (with_values id how source vs rows) ≡ Some (unwrap_or (all_of id rows) [] ++ vs)
  all_of_this id vs [] =
      ap (λ b. option_map (λ (x : Row). x.values) (cond b (Some (record {
        id = id;
        values = vs;
        count = None;
        source =
            Some source;
        reading = how;
      })) None)) (text_is id)
  all_of_this id vs (r ∷ rows) = go (has_id id r) refl (all_of_this id vs rows)
    where
      go : (b : Bool) → has_id id r ≡ b
          → all_of id (with_values id how source vs rows) ≡ Some (unwrap_or (all_of id rows) [] ++ vs)
          → all_of id (with_values id how source vs (r ∷ rows)) ≡ Some (unwrap_or (all_of id (r ∷ rows)) [] ++ vs)
      go true is rest = rw (is, is) refl
      go false is rest = rw (is, is) rest

  -- and of another
  pub all_of_other : (id other : Text) (vs : List Text) (rows : List Row) → bytes_eq id other ≡ false
      → all_of other (with_values id how source vs rows) ≡ all_of other rows
  all_of_other id other vs [] e =
      ap (λ b. option_map (λ (x : Row). x.values) (cond b (Some (record {
        id = id;
        values = vs;
        count = None;
        source =
            Some source;
        reading = how;
      })) None)) e
  all_of_other id other vs (r ∷ rows) e = go (has_id id r) refl (has_id other r) refl (all_of_other id other vs rows e)
    where
      go : (b : Bool) → has_id id r ≡ b → (d : Bool) → has_id other r ≡ d
          → all_of other (with_values id how source vs rows) ≡ all_of other rows
          → all_of other (with_values id how source vs (r ∷ rows)) ≡ all_of other (r ∷ rows)
      go true is true others rest =
          absurd (true≢false (sym others ∙ ap (λ t. bytes_eq t other) (same_text r.id id is) ∙ e))
      go true is false others rest = rw (is, others) refl
      go false is true others rest = rw (is, others) refl
      go false is false others rest = rw (is, others) rest

-- ---- uses

-- a use of the names or of an option, with a value; or none
pub data Use : Type 0 where
  nothing : Use
  named : (name : Text) → Use
  valued : (option value : Text) → Use

-- the rows behind a use
abbrev pub settle : List Row → Use → List Row
settle rows nothing = rows
settle rows (named name) = used name_arg (name ∷ []) rows
settle rows (valued option value) = used (opt option) (value ∷ []) rows

-- its fault: an option that was used before
abbrev pub clash : List Row → Use → Kinds
clash rows nothing = []
clash rows (named name) = []
clash rows (valued option value) = if has_row option rows then kind.ArgumentConflict ∷ [] else []

pub clash_is : (o v : Text) (rows : List Row) → use_fault false (opt o) (v ∷ []) rows ≡ clash rows (valued o v)
clash_is o v rows = go (has_row o rows)
  where
    go : (b : Bool)
        → or_else (cond (b && true) (kind.ArgumentConflict ∷ []) []) [] ≡ cond b (kind.ArgumentConflict ∷ []) []
    go true = refl
    go false = refl

unfoldable pub settle_all : List Row → List Use → List Row
settle_all rows [] = rows
settle_all rows (u ∷ us) = settle_all (settle rows u) us

unfoldable pub clash_all : List Row → List Use → Kinds
clash_all rows [] = []
clash_all rows (u ∷ us) = or_else (clash rows u) (clash_all (settle rows u) us)

-- the names and the options of uses
abbrev pub names_used : List Use → List Text
names_used [] = []
names_used (nothing ∷ us) = names_used us
names_used (named n ∷ us) = n ∷ names_used us
names_used (valued o v ∷ us) = names_used us

abbrev pub options_used : List Use → List Given
options_used [] = []
options_used (nothing ∷ us) = options_used us
options_used (named n ∷ us) = options_used us
options_used (valued o v ∷ us) = (o, v) ∷ options_used us

abbrev pub are_options : List Text → List Given → Bool
are_options os [] = true
are_options os (g ∷ more) = is_among os g.0 && are_options os more

-- ---- what stays, and what comes

option_rows : (o v : Text) (rows : List Row) → has_row o rows ≡ false → (id : Text) → bytes_eq o id ≡ false
    → all_of id (settle rows (valued o v)) ≡ all_of id rows
option_rows o v rows new id e =
    all_of_other (reading_by (opt o)) _ o id (v ∷ []) (without o rows) e ∙ ap (all_of id) (none_kept o rows new)

option_row : (o v : Text) (rows : List Row) → has_row o rows ≡ false
    → all_of o (settle rows (valued o v)) ≡ Some (v ∷ [])
option_row o v rows new =
    all_of_this (reading_by (opt o)) _ o (v ∷ []) (without o rows)
    ∙ ap (λ rs. Some (unwrap_or (all_of o rs) [] ++ v ∷ [])) (none_kept o rows new) ∙ ap (λ m. Some (unwrap_or m [] ++ v
    ∷ [])) (absent (all_of o rows) (sym (row_by_all o rows) ∙ new))
  where
    absent : (m : Option (List Text)) → is_some m ≡ false → m ≡ None
    absent None e = refl
    absent (Some x) e = absurd (true≢false e)

name_rows : (n : Text) (rows : List Row) (id : Text) → bytes_eq (codes "names") id ≡ false
    → all_of id (settle rows (named n)) ≡ all_of id rows
name_rows n rows id e = all_of_other (reading_by name_arg) _ (codes "names") id (n ∷ []) rows e

names_more : (n : Text) (rows : List Row) → names_found (settle rows (named n)) ≡ names_found rows ++ n ∷ []
names_more n rows = ap (λ m. unwrap_or m []) (all_of_this (reading_by name_arg) _ (codes "names") (n ∷ []) rows)

names_same : (o v : Text) (rows : List Row) → has_row o rows ≡ false → bytes_eq (codes "names") o ≡ false
    → names_found (settle rows (valued o v)) ≡ names_found rows
names_same o v rows new other =
    ap (λ m. unwrap_or m []) (option_rows o v rows new (codes "names") (swapped (codes "names") o other))

-- ---- which options were used

-- of these options those that were used are these
abbrev pub Known : List Text → List Row → List Text → Type 0
Known os rows before = (o : Text) → is_among os o ≡ true → has_row o rows ≡ is_among before o

known_name : (os : List Text) (n : Text) (rows : List Row) (before : List Text) → are_good os ≡ true
    → Known os rows before → Known os (settle rows (named n)) before
known_name os n rows before good known o among =
    row_by_all o (settle rows (named n)) ∙ ap is_some (name_rows n rows o (not_names o (good_among os o good among))) ∙
    sym (row_by_all o rows) ∙ known o among

known_option : (os : List Text) (o v : Text) (rows : List Row) (before : List Text) → has_row o rows ≡ false
    → Known os rows before → Known os (settle rows (valued o v)) (o ∷ before)
known_option os o v rows before new known other among = go (bytes_eq o other) refl
  where
    go : (b : Bool) → bytes_eq o other ≡ b
        → has_row other (settle rows (valued o v)) ≡ (bytes_eq o other || is_among before other)
    go true is = row_by_all other (settle rows (valued o v))
        ∙ ap (λ t. is_some (all_of t (settle rows (valued o v)))) (sym (same_text o other is)) ∙ ap is_some (option_row
        o v rows new)
        ∙ ap (λ b. b || is_among before other) (sym is)
    go false is =
        row_by_all other (settle rows (valued o v)) ∙ ap is_some (option_rows o v rows new other is) ∙ sym (row_by_all
        other rows) ∙ known other among
        ∙ ap (λ b. b || is_among before other) (sym is)

-- uses have no fault exactly where no option comes twice
pub once_is : (os : List Text) (us : List Use) (rows : List Row) (before : List Text) → are_good os ≡ true
    → Known os rows before → are_options os (options_used us) ≡ true
    → is_nil (clash_all rows us) ≡ come_once before (options_used us)
unfolding clash_all
once_is os [] rows before good known fit = refl
once_is os (nothing ∷ us) rows before good known fit = once_is os us rows before good known fit
once_is os (named n ∷ us) rows before good known fit =
    once_is os us (settle rows (named n)) before good (known_name os n rows before good known) fit
once_is os (valued o v ∷ us) rows before good known fit =
    let parts = and_parts (is_among os o) (are_options os (options_used us)) fit in
    ap (λ b. is_nil (or_else (cond b (kind.ArgumentConflict ∷ []) []) (clash_all (settle rows (valued o v)) us))) (known
    o parts.0)
    ∙ go (is_among before o) (λ new. once_is os us (settle rows (valued o v)) (o ∷ before) good (known_option os o v
    rows before (known o parts.0 ∙ new) known) parts.1)
  where
    go : (b : Bool) → (b ≡ false
        → is_nil (clash_all (settle rows (valued o v)) us) ≡ come_once (o ∷ before) (options_used us))
        → is_nil (or_else (cond b (kind.ArgumentConflict ∷ []) []) (clash_all (settle rows (valued o v)) us)) ≡ (not b
        && come_once (o ∷ before) (options_used us))
    go true rest = refl
    go false rest = rest refl

-- ---- the names and the values behind uses

new_of : (os : List Text) (o v : Text) (us : List Use) (rows : List Row)
    → is_nil (clash_all rows (valued o v ∷ us)) ≡ true
    → (has_row o rows ≡ false) × (is_nil (clash_all (settle rows (valued o v)) us) ≡ true)
unfolding clash_all
new_of os o v us rows e = go (has_row o rows) e
  where
    go : (b : Bool)
        → is_nil (or_else (cond b (kind.ArgumentConflict ∷ []) []) (clash_all (settle rows (valued o v)) us)) ≡ true
        → (b ≡ false) × (is_nil (clash_all (settle rows (valued o v)) us) ≡ true)
    go true e = absurd (true≢false (sym e))
    go false e = (refl, e)

later : (n : Text) (us : List Use) (rows : List Row) → is_nil (clash_all rows (named n ∷ us)) ≡ true
    → is_nil (clash_all (settle rows (named n)) us) ≡ true
unfolding clash_all
later n us rows e = e

later_nothing : (us : List Use) (rows : List Row) → is_nil (clash_all rows (nothing ∷ us)) ≡ true
    → is_nil (clash_all rows us) ≡ true
unfolding clash_all
later_nothing us rows e = e

pub names_are : (os : List Text) (us : List Use) (rows : List Row) → are_good os ≡ true
    → are_options os (options_used us) ≡ true → is_nil (clash_all rows us) ≡ true
    → names_found (settle_all rows us) ≡ names_found rows ++ names_used us
unfolding settle_all
names_are os [] rows good fit fine = sym (append-nil (names_found rows))
names_are os (nothing ∷ us) rows good fit fine = names_are os us rows good fit (later_nothing us rows fine)
names_are os (named n ∷ us) rows good fit fine =
    names_are os us (settle rows (named n)) good fit (later n us rows fine) ∙ ap (λ ns. ns ++ names_used us) (names_more
    n rows)
    ∙ append_assoc (names_found rows) (n ∷ []) (names_used us)
names_are os (valued o v ∷ us) rows good fit fine =
    let parts = and_parts (is_among os o) (are_options os (options_used us)) fit in
    let first = new_of os o v us rows fine in
    names_are os us (settle rows (valued o v)) good parts.1 first.1
    ∙ ap (λ ns. ns ++ names_used us) (names_same o v rows first.0 (not_names o (good_among os o good parts.0)))

-- a value, or else another
abbrev pub value_or : Option Text → Option Text → Option Text
value_or None other = other
value_or (Some v) other = Some v

nothing_else : (v : Option Text) → value_or v None ≡ v
nothing_else None = refl
nothing_else (Some x) = refl

none_first : (o : Text) (rows : List Row) → has_row o rows ≡ false → first_of o rows ≡ None
unfolding first_value
none_first o rows e = first_by_all o rows ∙ go (all_of o rows) (sym (row_by_all o rows) ∙ e)
  where
    go : (m : Option (List Text)) → is_some m ≡ false → first_value m ≡ None
    go None e = refl
    go (Some x) e = absurd (true≢false e)

some_first : (o v : Text) (rows : List Row) → has_row o rows ≡ false → first_of o (settle rows (valued o v)) ≡ Some v
unfolding first_value
some_first o v rows new = first_by_all o (settle rows (valued o v)) ∙ ap first_value (option_row o v rows new)

value_step : (p v : Text) (us : List Use) (rows : List Row) (o : Text) → has_row p rows ≡ false
    → value_or (first_of o (settle rows (valued p v))) (value_of o (options_used us)) ≡ value_or (first_of o rows) (cond
    (bytes_eq p o) (Some v) (value_of o (options_used us)))
value_step p v us rows o new = go (bytes_eq p o) refl
  where
    go : (b : Bool) → bytes_eq p o ≡ b
        → value_or (first_of o (settle rows (valued p v))) (value_of o (options_used us)) ≡ value_or (first_of o rows)
        (cond (bytes_eq p o) (Some v) (value_of o (options_used us)))
    go true is =
        ap (λ t. value_or (first_of t (settle rows (valued p v))) (value_of o (options_used us))) (sym (same_text p o
        is))
        ∙ ap (λ m. value_or m (value_of o (options_used us))) (some_first p v rows new)
        ∙ sym (ap₂ (λ m b. value_or m (cond b (Some v) (value_of o (options_used us)))) (ap (λ t. first_of t rows) (sym
        (same_text p o is)) ∙ none_first p rows new) is)
    go false is =
        ap (λ m. value_or m (value_of o (options_used us))) (first_by_all o (settle rows (valued p v)) ∙ ap first_value
        (option_rows p v rows new o is) ∙ sym (first_by_all o rows))
        ∙ sym (ap (λ b. value_or (first_of o rows) (cond b (Some v) (value_of o (options_used us)))) is)

pub values_are : (os : List Text) (us : List Use) (rows : List Row) → are_good os ≡ true
    → are_options os (options_used us) ≡ true → is_nil (clash_all rows us) ≡ true
    → (o : Text) → is_among os o ≡ true
    → first_of o (settle_all rows us) ≡ value_or (first_of o rows) (value_of o (options_used us))
unfolding settle_all
values_are os [] rows good fit fine o among = sym (nothing_else (first_of o rows))
values_are os (nothing ∷ us) rows good fit fine o among =
    values_are os us rows good fit (later_nothing us rows fine) o among
values_are os (named n ∷ us) rows good fit fine o among =
    values_are os us (settle rows (named n)) good fit (later n us rows fine) o among
    ∙ ap (λ v. value_or v (value_of o (options_used us))) (first_by_all o (settle rows (named n)) ∙ ap first_value
    (name_rows n rows o (not_names o (good_among os o good among))) ∙ sym (first_by_all o rows))
values_are os (valued p v ∷ us) rows good fit fine o among =
    let parts = and_parts (is_among os p) (are_options os (options_used us)) fit in
    let first = new_of os p v us rows fine in
    values_are os us (settle rows (valued p v)) good parts.1 first.1 o among ∙ value_step p v us rows o first.0
