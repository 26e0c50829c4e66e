-- What is written is read back.
use Rattle.std.proofs.Common.{◌≡◌, ◌∙◌, ◌<◌, ◌^◌, ℕ, refl}
use Rattle.std.proofs.Common.{ap}
use Rattle.std.proofs.Common.{List, ◌∷◌, ◌++◌, Some, inl, inr, ◌⊎◌, append_assoc}
use Rattle.std.proofs.Common.{codes}
use Rattle.std.specs.Fmt.{decimal}
use Rattle.tm_base.specs.Numbers.{hex_text}
use Rattle.tm_table.specs.declared.state.Access.{Access}
use Rattle.tm_table.specs.declared.state.Access.TheVariants as access
use Rattle.tm_plan_cases.specs.declared.event.Event.{Event}
use Rattle.tm_trace.specs.declared.line.Place.{Place}
use Rattle.tm_trace.specs.declared.line.Touch.{Touch}
use Rattle.tm_trace.specs.declared.line.Touch.TheVariants.{Nothing, Reads, Writes}
use Rattle.tm_trace.specs.declared.line.Line.{Line}
use Rattle.tm_trace.specs.declared.fields.TheConstants.{DECIMAL_END}
use Rattle.tm_trace.specs.Text.{place_text, access_text, event_text}
use Rattle.tm_trace.specs.Fields.{Field, ◌>>=◌, word_field, decimal_field, hex_field, hex_behind, decimal_behind}
use Rattle.tm_trace.specs.Fields.{place_field}
use Rattle.tm_trace.specs.Fields.{touching, touch_field, line_end, behind_hart, line_field}
use Rattle.tm_trace.proofs.Printed.{decimal_back, hex_back}

-- ---- one field behind another

hex_behind_back : (k v : ℕ) (rest : List ℕ) → v < 16 ^ k
    → hex_behind (codes " ") k (32 ∷ (hex_text k v ++ rest)) ≡ Some (v, rest)
unfolding word_field
hex_behind_back k v rest low = hex_back k v rest low

decimal_behind_back : (n c : ℕ) (rest : List ℕ) → n < DECIMAL_END → (not_digit : c ≡ 32 ⊎ c ≡ 10)
    → decimal_behind (codes " ") (32 ∷ (decimal n ++ c ∷ rest)) ≡ Some (n, c ∷ rest)
unfolding word_field
decimal_behind_back n c rest low (inl e) = decimal_back n c rest low (rw e refl)
decimal_behind_back n c rest low (inr e) = decimal_back n c rest low (rw e refl)

-- ---- an event

-- an access's place from its parts
abbrev placed : (addr width : ℕ) → ℕ → List ℕ → Field Place
placed addr width value rest = Some (record { addr = addr; width = width; value = value }, rest)

abbrev value_next : (addr : ℕ) → ℕ → List ℕ → Field Place
value_next addr width rest = hex_behind (codes " ") 16 rest >>= placed addr width

abbrev width_next : ℕ → List ℕ → Field Place
width_next addr rest = decimal_behind (codes " ") rest >>= value_next addr

abbrev place_next : List ℕ → Field Place
place_next bs = hex_field 16 bs >>= width_next

as_place : (bs : List ℕ) → place_field bs ≡ place_next bs
unfolding place_field
as_place bs = refl

as_text : (addr width value : ℕ) (rest : List ℕ) → place_text addr width value ++ rest
    ≡ hex_text 16 addr ++ (32 ∷ (decimal width ++ (32 ∷ (hex_text 16 value ++ rest))))
unfolding place_text
as_text addr width value rest = rw append_assoc (rw append_assoc (rw append_assoc (rw append_assoc refl)))

place_back : (addr width value : ℕ) (rest : List ℕ) → addr < 2 ^ 64 → width < DECIMAL_END → value < 2 ^ 64
    → place_field (place_text addr width value ++ rest)
    ≡ Some (record { addr = addr; width = width; value = value }, rest)
place_back addr width value rest a w v =
    ap place_field (as_text addr width value rest)
    ∙ (as_place (hex_text 16 addr ++ (32 ∷ (decimal width ++ (32 ∷ (hex_text 16 value ++ rest)))))
    ∙ (ap (λ f. f >>= width_next)
    (hex_back 16 addr (32 ∷ (decimal width ++ (32 ∷ (hex_text 16 value ++ rest)))) a)
    ∙ (ap (λ f. f >>= value_next addr)
    (decimal_behind_back width 32 (hex_text 16 value ++ rest) w (inl refl))
    ∙ ap (λ f. f >>= placed addr width) (hex_behind_back 16 value rest v))))

-- ---- an access

-- what the type of an access gives, and what a trace asks of it
abbrev pub IsSmall : Access → Type 0
IsSmall access.Quiet = Unit {0}
IsSmall (access.Read addr width value) = (addr < 2 ^ 64) × (width < DECIMAL_END) × (value < 2 ^ 64)
IsSmall (access.Write addr width value) = (addr < 2 ^ 64) × (width < DECIMAL_END) × (value < 2 ^ 64)

-- the access as a line tells it
abbrev pub touch_of : Access → Touch
touch_of access.Quiet = Nothing
touch_of (access.Read addr width value) = Reads (record { addr = addr; width = width; value = value })
touch_of (access.Write addr width value) = Writes (record { addr = addr; width = width; value = value })

touch_back : (a : Access) (rest : List ℕ) → IsSmall a → touch_field (access_text a ++ rest) ≡ Some (touch_of a, rest)
unfolding touch_field
touch_back access.Quiet rest s = refl
touch_back (access.Read addr width value) rest s =
    ap (touching Reads) (place_back addr width value rest s.0 s.1 s.2)
touch_back (access.Write addr width value) rest s =
    ap (touching Writes) (place_back addr width value rest s.0 s.1 s.2)

line_end_back : (hart pc word : ℕ) (a : Access) (rest : List ℕ) → IsSmall a
    → line_end hart pc word (access_text a ++ 10 ∷ rest)
    ≡ Some (record { hart = hart; pc = pc; word = word; touch = touch_of a }, rest)
unfolding word_field
line_end_back hart pc word a rest s =
    ap (λ f. f >>= (λ touch rest. word_field (codes "\n") rest >>= (λ _ rest.
    Some (record { hart = hart; pc = pc; word = word; touch = touch }, rest)))) (touch_back a (10 ∷ rest) s)

behind_hart_back : (hart pc word : ℕ) (a : Access) (rest : List ℕ) → pc < 2 ^ 64 → word < 2 ^ 32 → IsSmall a
    → behind_hart hart (32 ∷ (hex_text 16 pc ++ (32 ∷ (hex_text 8 word ++ (32 ∷ (access_text a ++ 10 ∷ rest))))))
    ≡ Some (record { hart = hart; pc = pc; word = word; touch = touch_of a }, rest)
unfolding word_field
behind_hart_back hart pc word a rest p w s =
    ap (λ f. f >>= (λ pc rest. hex_behind (codes " ") 8 rest >>= (λ word rest.
    word_field (codes " ") rest >>= (λ _ rest. line_end hart pc word rest))))
    (hex_behind_back 16 pc (32 ∷ (hex_text 8 word ++ (32 ∷ (access_text a ++ 10 ∷ rest)))) p)
    ∙ (ap (λ f. f >>= (λ word rest. word_field (codes " ") rest >>= (λ _ rest. line_end hart pc word rest)))
    (hex_behind_back 8 word (32 ∷ (access_text a ++ 10 ∷ rest)) w)
    ∙ line_end_back hart pc word a rest s)

-- what the types of an event's parts give
pub record IsRanged (e : Event) : Type 0 where
  pub hart : e.hart < DECIMAL_END
  pub pc : e.pc < 2 ^ 64
  pub word : e.word < 2 ^ 32
  pub access : IsSmall e.access

-- the line that tells an event
abbrev pub line_of : Event → Line
line_of e = record { hart = e.hart; pc = e.pc; word = e.word; touch = touch_of e.access }

event_as_text : (e : Event) (rest : List ℕ) → event_text e ++ rest
    ≡ decimal e.hart ++ (32 ∷ (hex_text 16 e.pc ++ (32 ∷ (hex_text 8 e.word
    ++ (32 ∷ (access_text e.access ++ (10 ∷ rest)))))))
unfolding event_text
event_as_text e rest =
    rw append_assoc (rw append_assoc (rw append_assoc (rw append_assoc (rw append_assoc (rw append_assoc
    (rw append_assoc refl))))))

as_line : (bs : List ℕ) → line_field bs ≡ (decimal_field bs >>= behind_hart)
unfolding line_field
as_line bs = refl

pub line_back : (e : Event) (rest : List ℕ) → IsRanged e → line_field (event_text e ++ rest) ≡ Some (line_of e, rest)
line_back e rest r =
    let tail : List ℕ = hex_text 16 e.pc ++
    (32 ∷ (hex_text 8 e.word ++ (32 ∷ (access_text e.access ++ (10 ∷ rest))))) in
    ap line_field (event_as_text e rest)
    ∙ (as_line (decimal e.hart ++ (32 ∷ tail))
    ∙ (ap (λ f. f >>= behind_hart) (decimal_back e.hart 32 tail r.hart refl)
    ∙ behind_hart_back e.hart e.pc e.word e.access rest r.pc r.word r.access))
