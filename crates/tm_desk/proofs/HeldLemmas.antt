-- What a list of files holds after a file was put in its place.
use Rattle.std.proofs.Common.{◌≡◌, ◌+◌, ◌<◌, ◌≤◌, ℕ, suc, List, [], ◌∷◌, ◌++◌, Bool, not, true, false, Option, Some}
use Rattle.std.proofs.Common.{None, cond, unwrap_or, length, take, drop, get_or, set, refl, sym, ◌∙◌, ap, arith}
use Rattle.std.proofs.Common.{rules}
use Rattle.std.proofs.Math.Seq.{take-length, drop-cons}
use Rattle.std.proofs.lemmas.List.{take_more, set_split, take-append-drop}
use Rattle.std.proofs.lemmas.Slice.Eq.{bytes_eq-Decides}
use Rattle.std.specs.Str.{bytes_eq}
use Rattle.tm_desk.specs.declared.files.File.{File}
use Rattle.tm_desk.specs.Causes.{OthersStay}
use Rattle.tm_desk.specs.Held.{file_of, file_or_empty, IsPlace}

false_if_not_true : (b : Bool) → ¬ (b ≡ true) → b ≡ false
false_if_not_true true other = absurd (other refl)
false_if_not_true false other = refl

-- a file of this name at the head
pub file_of-same : (f : File) (fs : List File) (name : List ℕ) → f.name ≡ name → file_of (f ∷ fs) name ≡ Some f.bytes
file_of-same f fs name same =
    ap (λ b. cond b (Some f.bytes) (file_of fs name)) ((bytes_eq-Decides f.name name).1 same)

-- a file of another name at the head
pub file_of-other : (f : File) (fs : List File) (name : List ℕ) → ¬ (f.name ≡ name) → file_of (f ∷ fs) name
    ≡ file_of fs name
file_of-other f fs name other =
    let unequal = false_if_not_true (bytes_eq f.name name) (λ is_true. other ((bytes_eq-Decides f.name name).0 is_true))
    in
    ap (λ b. cond b (Some f.bytes) (file_of fs name)) unequal

none_then : (b : Bool) (x : List ℕ) (o p q : Option (List ℕ)) → cond b (Some x) o ≡ None → (o ≡ None → p ≡ q)
    → cond b (Some x) p ≡ q
none_then true x o p q none next = search rules
none_then false x o p q none next = next none

-- after files of other names
pub file_of-append : (xs ys : List File) (name : List ℕ) → file_of xs name ≡ None → file_of (xs ++ ys) name
    ≡ file_of ys name
file_of-append [] ys name none = refl
file_of-append (f ∷ xs) ys name none =
    none_then (bytes_eq f.name name) f.bytes (file_of xs name) (file_of (xs ++ ys) name) (file_of ys name) none
    (file_of-append xs ys name)

-- a file of another name among others
pub file_of-skip : (xs : List File) (f : File) (ys : List File) (name : List ℕ) → ¬ (f.name ≡ name) →
    file_of (xs ++ f ∷ ys) name ≡ file_of (xs ++ ys) name
file_of-skip [] f ys name other = file_of-other f ys name other
file_of-skip (x ∷ xs) f ys name other =
    ap (λ rest. cond (bytes_eq x.name name) (Some x.bytes) rest) (file_of-skip xs f ys name other)

-- what a test for another name says
pub differ : (a b c : List ℕ) → a ≡ c → true ≡ not (bytes_eq a b) → ¬ (c ≡ b)
differ a b c is test same = search (rules, (bytes_eq-Decides a b).1 (is ∙ same))

-- a place that is passed over
pub file_of-take_more : (fs : List File) (i : ℕ) (d : File) (name : List ℕ) → i < length fs →
    file_of (take i fs) name ≡ None → ¬ ((get_or fs i d).name ≡ name) → file_of (take (i + 1) fs) name ≡ None
file_of-take_more fs i d name inside none other =
    ap (λ part. file_of part name) (take_more fs i d inside)
    ∙ file_of-append (take i fs) (get_or fs i d ∷ []) name none
    ∙ file_of-other (get_or fs i d) [] name other

-- a list in which the place of a name is inside, from that place on
parts : (fs : List File) (i : ℕ) (d : File) → i < length fs → fs ≡ take i fs ++ get_or fs i d ∷ drop (suc i) fs
parts fs i d inside = sym (take-append-drop i fs) ∙ ap (λ rest. take i fs ++ rest) (drop-cons fs i d inside)

-- the file at its place
pub file_of-at_place : (fs : List File) (name : List ℕ) (i : ℕ) (d : File) → IsPlace fs name i → i < length fs →
    file_of fs name ≡ Some (get_or fs i d).bytes
file_of-at_place fs name i d place inside =
    ap (λ all. file_of all name) (parts fs i d inside)
    ∙ file_of-append (take i fs) (get_or fs i d ∷ drop (suc i) fs) name place.earlier
    ∙ file_of-same (get_or fs i d) (drop (suc i) fs) name (place.same_name d inside)

-- no file has a name whose place is the length
pub file_of-no_place : (fs : List File) (name : List ℕ) (i : ℕ) → IsPlace fs name i → length fs ≤ i
    → file_of fs name ≡ None
file_of-no_place fs name i place past =
    let whole : i ≡ length fs = omega (arith, past, place.within) in
    ap (λ all. file_of all name) (sym (take-length fs))
    ∙ ap (λ n. file_of (take n fs) name) (sym whole)
    ∙ place.earlier

-- the name of a file that was put in its place
pub file_of-set : (fs : List File) (name : List ℕ) (i : ℕ) (f : File) (bytes : List ℕ) → IsPlace fs name i
    → i < length fs →
    f.name ≡ name → f.bytes ≡ bytes → file_of (set fs i f) name ≡ Some bytes
file_of-set fs name i f bytes place inside same holds =
    ap (λ all. file_of all name) (set_split fs i f inside)
    ∙ file_of-append (take i fs) (f ∷ drop (suc i) fs) name place.earlier
    ∙ file_of-same f (drop (suc i) fs) name same
    ∙ ap (λ b. Some b) holds

-- the other names after a file was put in its place
pub others-set : (fs : List File) (name : List ℕ) (i : ℕ) (f : File) → IsPlace fs name i → i < length fs → f.name ≡ name
    →
    OthersStay (file_of fs) (file_of (set fs i f)) name
others-set fs name i f place inside same other differs =
    let before = take i fs in
    let after = drop (suc i) fs in
    let was = get_or fs i f in
    ap (λ all. file_of all other) (set_split fs i f inside)
    ∙ file_of-skip before f after other (λ e. differs (sym e ∙ same))
    ∙ sym (file_of-skip before was after other (λ e. differs (sym e ∙ place.same_name f inside)))
    ∙ sym (ap (λ all. file_of all other) (parts fs i f inside))

-- the name of a file that was added at the end
pub file_of-push : (fs : List File) (name : List ℕ) (f : File) (bytes : List ℕ) → file_of fs name ≡ None → f.name ≡ name
    →
    f.bytes ≡ bytes → file_of (fs ++ f ∷ []) name ≡ Some bytes
file_of-push fs name f bytes none same holds =
    file_of-append fs (f ∷ []) name none ∙ file_of-same f [] name same ∙ ap (λ b. Some b) holds

-- the other names after a file was added at the end
pub others-push : (fs : List File) (name : List ℕ) (f : File) → f.name ≡ name →
    OthersStay (file_of fs) (file_of (fs ++ f ∷ [])) name
others-push fs name f same other differs =
    file_of-skip fs f [] other (λ e. differs (sym e ∙ same)) ∙ ap (λ all. file_of all other) (search rules)

-- with an empty file under every other name
pub others-or_empty : (before now : List File) (name : List ℕ) → OthersStay (file_of before) (file_of now) name →
    OthersStay (file_or_empty before) (file_or_empty now) name
others-or_empty before now name stay other differs = ap (λ found. Some (unwrap_or found [])) (stay other differs)
