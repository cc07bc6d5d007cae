-- What is written: the free bytes are 0, and no region stands behind those that are counted.
use Rattle.std.specs.Prelude.{◌≡◌, ⊤, ℕ, List, [], ◌∷◌, ◌++◌, length, replicate, None}
use Rattle.vub_wire.specs.declared.messages.Header.{Header}
use Rattle.vub_wire.specs.declared.messages.Message.{Message}
use Rattle.vub_wire.specs.declared.messages.Message.TheVariants as messages
use Rattle.vub_wire.specs.Requests.{request_at}
use Rattle.vub_wire.specs.Grammar.{payload_bytes, tail_size, number_of, header_bytes}

abbrev pub zeros : List ℕ
zeros = 0 ∷ 0 ∷ 0 ∷ 0 ∷ []

abbrev pub padding_of : Message → List ℕ
padding_of (messages.SetMemTable regions) = zeros
padding_of m = []

abbrev pub tail_of : Message → List ℕ
tail_of (messages.GetInflight x) = replicate (tail_size x.long) 0
tail_of (messages.SetInflight x) = replicate (tail_size x.long) 0
tail_of m = []

abbrev pub written_payload : Message → List ℕ
written_payload m = payload_bytes m (padding_of m) (tail_of m)

abbrev pub written_header : Message → ℕ → Header
written_header m flags = record { request = number_of m; flags = flags; size = length (written_payload m) }

abbrev pub message_bytes : Message → ℕ → List ℕ
message_bytes m flags = header_bytes (written_header m flags) ++ written_payload m

-- a request that is skipped has no number with a variant of its own
abbrev pub IsNamed : Message → Type 0
IsNamed (messages.Other n) = request_at n ≡ None
IsNamed m = ⊤
