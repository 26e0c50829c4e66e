-- The arguments of a built parser, and how they are found.
use Rattle.std.proofs.Common.{◌≡◌, ◌∙◌, ◌==◌, ◌&&◌, ◌||◌, not, ℕ, Bool, cond, true, false, refl, sym, ap}
use Rattle.std.proofs.Common.{List, [], ◌∷◌, map, Some, None, find, is_some}
use Rattle.std.proofs.Common.{codes, true≢false}
use Rattle.std.specs.Str.{bytes_eq}
use Rattle.std.specs.List.{list_any, list_all, fold}
use Rattle.clap.specs.Walk.{Text, Rule, Row, arg_by_id, arg_by_long, arg_by_short, has_long}
use Rattle.clap.specs.Walk.{with_default, has_row}
use Rattle.clap.specs.Simple.{Shape, new_shape, filled, with_index}
use Rattle.clap.specs.Kinds.{Kinds, or_else}
use Rattle.clap.specs.Faults.{defaults_fault}
use Rattle.clap.specs.Takes.{is_given}
use Rattle.tm_words.specs.Form.{is_among}
use Rattle.tm_words.specs.Parser.{names_rule, option_rule}
use Rattle.tm_words.proofs.Plain.{same_text, or-false, not_false}
use Rattle.std.proofs.lemmas.Bool.{and_parts}

-- ---- what building makes of the arguments

abbrev pub name_arg : Rule
name_arg = with_index 1 (filled names_rule)

abbrev pub opt : Text → Rule
opt o = with_index 2 (filled (option_rule o))

abbrev pub rules_of : List Text → List Rule
rules_of os = name_arg ∷ map opt os

abbrev pub built_shape : Text → List Text → Shape
built_shape name os = record (new_shape name) {
  rules = rules_of os;
  no_binary_name = true;
  disable_help_flag = true;
  disable_help_subcommand = true;
  is_built = true;
}

-- an option's name is not empty, has no `=`, and isn't the id of the names
abbrev pub is_good : Text → Bool
is_good [] = false
is_good (b ∷ bs) = not (list_any (λ x. x == 61) (b ∷ bs)) && not (bytes_eq (codes "names") (b ∷ bs))

abbrev pub are_good : List Text → Bool
are_good os = list_all is_good os

-- ---- how they are found

-- the first that passes a test which each passes exactly where its option is this one
find_opt : (p : Rule → Bool) (os : List Text) (o : Text) → ((x : Text) → p (opt x) ≡ bytes_eq x o)
    → is_among os o ≡ true
    → find p (map opt os) ≡ Some (opt o)
find_opt p [] o same e = absurd (true≢false (sym e))
find_opt p (x ∷ os) o same e =
    ap (λ b. cond b (Some (opt x)) (find p (map opt os))) (same x) ∙ go (bytes_eq x o) (same_text x o) (λ t. find_opt p
    os o same t) e
  where
    go : (b : Bool) → (b ≡ true → x ≡ o) → (is_among os o ≡ true → find p (map opt os) ≡ Some (opt o))
        → (b || is_among os o) ≡ true
        → cond b (Some (opt x)) (find p (map opt os)) ≡ Some (opt o)
    go true is rest e = ap (λ t. Some (opt t)) (is refl)
    go false is rest e = rest e

-- and none, where the option is none of them
find_no_opt : (p : Rule → Bool) (os : List Text) (o : Text) → ((x : Text) → p (opt x) ≡ bytes_eq x o)
    → is_among os o ≡ false
    → find p (map opt os) ≡ None
find_no_opt p [] o same e = refl
find_no_opt p (x ∷ os) o same e =
    ap (λ b. cond b (Some (opt x)) (find p (map opt os))) (same x) ∙ go (bytes_eq x o) (λ t. find_no_opt p os o same t)
    e
  where
    go : (b : Bool) → (is_among os o ≡ false → find p (map opt os) ≡ None) → (b || is_among os o) ≡ false
        → cond b (Some (opt x)) (find p (map opt os)) ≡ None
    go true rest e = absurd (true≢false e)
    go false rest e = rest e

by_name : (o x : Text) → (not (is_some (opt x).index) && has_long (opt x) o) ≡ bytes_eq x o
by_name o x = or-false (bytes_eq x o)

pub long_is : (os : List Text) (o : Text) → is_among os o ≡ true → arg_by_long (rules_of os) o ≡ Some (opt o)
long_is os o e = find_opt (λ a. not (is_some a.index) && has_long a o) os o (by_name o) e

pub no_long : (os : List Text) (o : Text) → is_among os o ≡ false → arg_by_long (rules_of os) o ≡ None
no_long os o e = find_no_opt (λ a. not (is_some a.index) && has_long a o) os o (by_name o) e

pub no_short : (os : List Text) (x : ℕ) → arg_by_short (rules_of os) x ≡ None
no_short [] x = refl
no_short (o ∷ os) x = no_short os x

-- an option among good ones is good
pub good_among : (os : List Text) (o : Text) → are_good os ≡ true → is_among os o ≡ true → is_good o ≡ true
good_among [] o good e = absurd (true≢false (sym e))
good_among (x ∷ os) o good e =
    let parts = and_parts (is_good x) (are_good os) good in
    go (bytes_eq x o) (same_text x o) parts.0 (good_among os o parts.1) e
  where
    go : (b : Bool) → (b ≡ true → x ≡ o) → is_good x ≡ true → (is_among os o ≡ true → is_good o ≡ true)
        → (b || is_among os o) ≡ true → is_good o ≡ true
    go true is fine rest e = ap is_good (sym (is refl)) ∙ fine
    go false is fine rest e = rest e

pub not_names : (o : Text) → is_good o ≡ true → bytes_eq (codes "names") o ≡ false
not_names [] e = absurd (true≢false (sym e))
not_names (b ∷ bs) e =
    not_false (bytes_eq (codes "names") (b ∷ bs)) (and_parts (not (list_any (λ x. x == 61) (b ∷ bs))) _ e).1

pub no_equals : (o : Text) → is_good o ≡ true → list_any (λ x. x == 61) o ≡ false
no_equals [] e = refl
no_equals (b ∷ bs) e =
    not_false (list_any (λ x. x == 61) (b ∷ bs)) (and_parts (not (list_any (λ x. x == 61) (b ∷ bs))) _ e).0

pub id_is : (os : List Text) (o : Text) → are_good os ≡ true → is_among os o ≡ true
    → arg_by_id (rules_of os) o ≡ Some (opt o)
id_is os o good e =
    ap (λ b. cond b (Some name_arg) (find (λ (a : Rule). bytes_eq a.id o) (map opt os))) (not_names o (good_among os o
    good e))
    ∙ find_opt (λ a. bytes_eq a.id o) os o (λ x. refl) e

-- ---- what building and the parse add

or_true : (b : Bool) (ks : Kinds) → cond (b || true) [] ks ≡ []
or_true true ks = refl
or_true false ks = refl

same_either : {X : Type 0} (b : Bool) (x : X) → cond b x x ≡ x
same_either true x = refl
same_either false x = refl

opts_default : (rows : List Row) (os : List Text) → defaults_fault rows (map opt os) ≡ []
unfolding defaults_fault
opts_default rows [] = refl
opts_default rows (o ∷ os) =
    ap (λ k. or_else k (defaults_fault (with_default rows (opt o)) (map opt os))) (or_true (has_row o rows) _)
    ∙ ap (λ r. defaults_fault r (map opt os)) (same_either (has_row o rows) rows) ∙ opts_default rows os

pub no_default_fault : (rows : List Row) (os : List Text) → defaults_fault rows (rules_of os) ≡ []
unfolding defaults_fault
no_default_fault rows os =
    ap (λ k. or_else k (defaults_fault (with_default rows name_arg) (map opt os))) (or_true (has_row (codes "names")
    rows) _)
    ∙ ap (λ r. defaults_fault r (map opt os)) (same_either (has_row (codes "names") rows) rows) ∙ opts_default rows os

opts_add : (rows : List Row) (os : List Text) → fold with_default rows (map opt os) ≡ rows
opts_add rows [] = refl
opts_add rows (o ∷ os) =
    ap (λ r. fold with_default r (map opt os)) (same_either (has_row o rows) rows) ∙ opts_add rows os

pub nothing_added : (rows : List Row) (os : List Text) → fold with_default rows (rules_of os) ≡ rows
nothing_added rows os =
    ap (λ r. fold with_default r (map opt os)) (same_either (has_row (codes "names") rows) rows) ∙ opts_add rows os

pub none_required : (rows : List Row) (os : List Text)
    → list_any (λ (a : Rule). a.required && not (is_given a.id rows)) (map opt os) ≡ false
none_required rows [] = refl
none_required rows (o ∷ os) = none_required rows os
