-- The bytes of a list of spans, joined in their order.
use Rattle.std.specs.Prelude.{ℕ, ◌+◌, ◌-◌, nat_le, min, take, drop, if◌then◌else◌, List, [], ◌∷◌, ◌++◌}
use Rattle.vub_shared.specs.Bytes.{Bytes, bytes_from}
use Rattle.vub_chain.specs.declared.spans.Span.{Span}
use Rattle.vub_pieces.specs.declared.pieces.Piece.{Piece}

-- how many they are
abbrev pub bytes_in : List Span → ℕ
bytes_in [] = 0
bytes_in (s ∷ ss) = s.len + bytes_in ss

-- all of them
abbrev pub joined : Bytes → List Span → List ℕ
joined m [] = []
joined m (s ∷ ss) = bytes_from s.len m s.space.number s.place ++ joined m ss

-- those from number skip on that lie together, at most so many; none where there are no more bytes
abbrev pub piece_at : List Span → ℕ → ℕ → Piece
piece_at [] skip most = record { space = record { number = 0 }; place = 0; len = 0 }
piece_at (s ∷ ss) skip most = if nat_le s.len skip then piece_at ss (skip - s.len) most else record { space = s.space; place = s.place + skip; len = min most (s.len - skip) }

-- so many of them from number skip on
abbrev pub gathered : Bytes → List Span → ℕ → ℕ → List ℕ
gathered m spans skip count = take count (drop skip (joined m spans))
