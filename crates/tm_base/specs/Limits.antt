-- The sizes of a line, and the limits that differ by the version of the image. Source: this project.
use Rattle.std.specs.Prelude.{ℕ, Bool, ◌||◌, ◌==◌}
use Rattle.tm_base.specs.declared.limits.TheConstants.{IMAGE_VERSION, IMAGE_1_HARTS, IMAGE_1_CASES, IMAGE_1_ALU_OPS}
use Rattle.tm_base.specs.declared.limits.TheConstants.{SHORT_LINE, MIDDLE_LINE, LONG_LINE}

-- whether a line of a memory may have so many bytes: 32, 64 or 128
abbrev pub is_line_size : ℕ → Bool
is_line_size n = (n == SHORT_LINE || n == MIDDLE_LINE) || n == LONG_LINE

-- the version of the images that are built
abbrev pub image_version : ℕ
image_version = IMAGE_VERSION

-- how many harts an image of a version has at most
abbrev pub most_harts : ℕ → ℕ
most_harts version = IMAGE_1_HARTS

-- how many cases an image of a version has at most
abbrev pub most_cases : ℕ → ℕ
most_cases version = IMAGE_1_CASES

-- how many operations the class `alu` of an image of a version has
abbrev pub alu_ops : ℕ → ℕ
alu_ops version = IMAGE_1_ALU_OPS
