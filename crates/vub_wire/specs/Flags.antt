-- The flags of a header ("Header").
use Rattle.std.specs.Prelude.{ℕ, ◌/◌, ◌%◌, Bool, ◌==◌}

-- bits 0 and 1 hold the version
abbrev pub version : ℕ → ℕ
version flags = flags % 4

-- bit 2 marks a reply
abbrev pub marks_reply : ℕ → Bool
marks_reply flags = flags / 4 % 2 == 1

-- bit 3 asks for a reply
abbrev pub needs_reply : ℕ → Bool
needs_reply flags = flags / 8 % 2 == 1
