-- The listing of an image that is held.
use Rattle.std.proofs.Common.{◌≡◌, ℕ, List, Bool}
use Rattle.tm_desk.specs.Causes.{Files}
use Rattle.tm_plan_cases.specs.declared.program.Program.{Program}
use Rattle.tm_report.specs.Listing.{listing}
use Rattle.tm_top_owed.specs.Owed.{IsListingOf}
use Rattle.tm_top_owed.specs.Steps.{IsHeldImage}
use Rattle.tm_top_owed.proofs.Images.{list_accepted}

pub listing_of_held : (name : List ℕ) (tells : Bool) (held : Files) (program : Program) (seed : ℕ) (text : List ℕ)
    → IsHeldImage name tells held program seed → text ≡ listing program seed → IsListingOf name tells held text
listing_of_held name tells held program seed text its is = record {
  file = its.file;
  of_file = record { program = program; seed = seed; image = its.image; its_text = is };
  read = its.read;
  accepted = λ told. list_accepted name held (its.accepted told);
}
