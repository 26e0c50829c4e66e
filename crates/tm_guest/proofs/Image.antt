-- A region of zeros with the text and the tables is the memory before the first step.
use Rattle.std.proofs.Common.{◌≡◌, ℕ, ◌+◌, ◌-◌, ◌*◌, ◌/◌, ◌%◌, ◌≤◌, ◌<◌, [], ◌⊎◌, inl, inr, Bool, true, false, refl}
use Rattle.std.proofs.Common.{sym, ap, ◌∙◌, length, arith}
use Rattle.std.specs.Prelude.{slice_index, if◌then◌else◌}
use Rattle.std.proofs.lemmas.Bool.{cases_lt}
use Rattle.tm_plan_cases.specs.declared.program.Program.{Program}
use Rattle.tm_plan_map.specs.declared.addresses.TheConstants.{TEXT_ADDRESS, TABLES_ADDRESS}
use Rattle.tm_plan_map.specs.Map.{guest_base, text_base, tables_base}
use Rattle.tm_plan_cases.specs.Shaped.{IsProgram}
use Rattle.tm_ram.specs.Region.{Region}
use Rattle.tm_plan_map.proofs.Within.{within-true, within-false}
use Rattle.tm_world.specs.Place.{byte_of, image_byte, is_text, is_table}
use Rattle.tm_guest.specs.Memory.{IsGuestRegion, byte_at}
use Rattle.tm_guest.specs.Fields.{IsMemory}
use Rattle.tm_guest.specs.Start.{HasText, HasTables}

-- ---- what the image holds

-- byte number n of the text
abbrev text_byte : Program → ℕ → ℕ
text_byte p n = byte_of (slice_index p.text (n / 4)) (n % 4)

-- the image's byte at b by whether b is one of the text, and one of the tables
abbrev byte_by : Program → ℕ → Bool → Bool → ℕ
byte_by p b in-text in-tables =
    if in-text then text_byte p (b - TEXT_ADDRESS)
    else (if in-tables then slice_index p.tables (b - TABLES_ADDRESS) else 0)

image-by : (p : Program) (b : ℕ) (t v : Bool) → is_text p b ≡ t → is_table p b ≡ v → image_byte p b ≡ byte_by p b t v
unfolding text_base tables_base
image-by p b t v e f = ap (λ (x : Bool). byte_by p b x (is_table p b)) e ∙ ap (byte_by p b t) f

-- ---- the region

module _ (p : Program) (zeros r t : Region) (sh : IsProgram p) (zero : (k : ℕ) → slice_index zeros.bytes k ≡ 0)
    (g : IsGuestRegion t) (x : HasText p.text (length p.text) zeros r)
    (y : HasTables p.tables (length p.tables) r t) where
  -- outside the tables the region is as the text has left it
  before : (b : ℕ) → TEXT_ADDRESS ≤ b → (b < TABLES_ADDRESS) ⊎ (TABLES_ADDRESS + length p.tables ≤ b)
      → byte_at t b ≡ slice_index r.bytes (b - t.base)
  unfolding guest_base
  before b lo o =
      let off : (b - t.base < 8388608) ⊎ (8388608 + length p.tables ≤ b - t.base) =
      elim o [ inl a ↦ inl (omega (arith, g.base)) | inr c ↦ inr (omega (arith, g.base)) ] in
      y.outside (b - t.base) off

  in-text : (b : ℕ) → TEXT_ADDRESS ≤ b → b < TEXT_ADDRESS + 4 * length p.text → byte_at t b ≡ image_byte p b
  unfolding guest_base text_base
  in-text b lo l =
      let at : b - t.base ≡ b - TEXT_ADDRESS = omega (arith, g.base) in
      before b lo (inl (omega (arith, sh.text)))
      ∙ (x.inside (b - t.base) (omega (arith, g.base))
      ∙ (ap (text_byte p) at
      ∙ sym (image-by p b true (is_table p b) (within-true TEXT_ADDRESS (4 * length p.text) b lo l) refl)))

  in-tables : (b : ℕ) → is_text p b ≡ false → TABLES_ADDRESS ≤ b → b < TABLES_ADDRESS + length p.tables
      → byte_at t b ≡ image_byte p b
  unfolding guest_base tables_base
  in-tables b none lo l =
      let at : b - t.base ≡ 8388608 + (b - TABLES_ADDRESS) = omega (arith, g.base) in
      ap (slice_index t.bytes) at
      ∙ (y.inside (b - TABLES_ADDRESS) (omega arith)
      ∙ sym (image-by p b false true none (within-true TABLES_ADDRESS (length p.tables) b lo l)))

  elsewhere : (b : ℕ) → TEXT_ADDRESS + 4 * length p.text ≤ b → is_text p b ≡ false
      → (b < TABLES_ADDRESS) ⊎ (TABLES_ADDRESS + length p.tables ≤ b) → byte_at t b ≡ image_byte p b
  unfolding guest_base tables_base
  elsewhere b lo none o =
      before b (omega arith) o
      ∙ (x.outside (b - t.base) (omega (arith, g.base))
      ∙ (zero (b - t.base)
      ∙ sym (image-by p b false false none (within-false TABLES_ADDRESS (length p.tables) b o))))

  pub image-memory : IsMemory p [] t
  unfolding guest_base text_base
  image-memory = record { region = g; bytes = λ b lo hi. at b lo (cases_lt b (TEXT_ADDRESS + 4 * length p.text)) }
    where
      far : (b : ℕ) → TEXT_ADDRESS + 4 * length p.text ≤ b → is_text p b ≡ false
          → (b < TABLES_ADDRESS) ⊎ (TABLES_ADDRESS ≤ b)
          → (b < TABLES_ADDRESS + length p.tables) ⊎ (TABLES_ADDRESS + length p.tables ≤ b)
          → byte_at t b ≡ image_byte p b
      far b lo none (inr from) (inl to) = in-tables b none from to
      far b lo none (inr from) (inr past) = elsewhere b lo none (inr past)
      far b lo none (inl to) o = elsewhere b lo none (inl to)

      at : (b : ℕ) → TEXT_ADDRESS ≤ b
          → (b < TEXT_ADDRESS + 4 * length p.text) ⊎ (TEXT_ADDRESS + 4 * length p.text ≤ b)
          → byte_at t b ≡ image_byte p b
      at b lo (inl l) = in-text b lo l
      at b lo (inr m) =
          far b m (within-false TEXT_ADDRESS (4 * length p.text) b (inr m)) (cases_lt b TABLES_ADDRESS)
          (cases_lt b (TABLES_ADDRESS + length p.tables))
