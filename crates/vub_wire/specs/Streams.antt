-- The messages of a stream, and what a cutter holds of it.
use Rattle.std.specs.Prelude.{◌≡◌, ⊤, ℕ, ◌+◌, ◌-◌, ◌^◌, min, List, [], ◌∷◌, ◌++◌, length, Some, Result, Ok, Err}
use Rattle.vub_wire.specs.declared.fault.WireFault.{WireFault}
use Rattle.vub_wire.specs.declared.messages.Header.{Header}
use Rattle.vub_wire.specs.declared.messages.Message.{Message}
use Rattle.vub_wire.specs.Grammar.{IsMessage}
use Rattle.vub_wire.specs.Faults.{message_fault}

-- ---- streams

-- the bytes are these messages, one behind the other, and then a rest
abbrev pub AreFirst : List ℕ → List (Header × Message) → List ℕ → Type 0
AreFirst bytes [] rest = bytes ≡ rest
AreFirst bytes (x ∷ xs) rest = (first more : List ℕ) × IsMessage first x.0 x.1 × (bytes ≡ first ++ more) × AreFirst more xs rest

-- no message stands at the front
abbrev pub HasNoMessage : List ℕ → Type 0
HasNoMessage bytes = (first more : List ℕ) (h : Header) (m : Message) → IsMessage first h m → bytes ≡ first ++ more → ⊥

-- ---- cutters

-- the bytes that were fed and aren't in messages handed out, and how many are
pub record Held : Type 0 where
  pub held : List ℕ
  pub taken : ℕ

abbrev pub fresh : Held
fresh = record { held = []; taken = 0 }

abbrev pub fed : List ℕ → Held → Held
fed piece s = record { held = s.held ++ piece; taken = s.taken }

-- a count stands at the end of its type
abbrev pub total : ℕ → ℕ → ℕ
total taken n = min (taken + n) (2 ^ 64 - 1)

-- the message at the front goes out, and its length is counted
abbrev pub GoesOut : Held → Header × Message → Held → Type 0
GoesOut old x new = (first : List ℕ) × IsMessage first x.0 x.1 × (old.held ≡ first ++ new.held) × (new.taken ≡ total old.taken (length first))

-- a call of `next`: the message at the front goes out, or the fault comes and nothing changes
abbrev pub Hands : Held → Held → Result (Header × Message) WireFault → Type 0
Hands old new (Ok x) = GoesOut old x new
Hands old new (Err e) = (message_fault old.held ≡ Some e) × (new ≡ old)

-- ---- any calls

-- a call: a piece that was fed, or what `next` answered
pub data Call : Type 0 where
  Feed : List ℕ → Call
  Next : Result (Header × Message) WireFault → Call

-- the calls lead from one state to another
abbrev pub Ran : Held → List Call → Held → Type 0
Ran s [] t = t ≡ s
Ran s (Feed piece ∷ calls) t = Ran (fed piece s) calls t
Ran s (Next result ∷ calls) t = (mid : Held) × Hands s mid result × Ran mid calls t

-- all pieces joined, and the messages handed out
abbrev pub joined : List Call → List ℕ
joined [] = []
joined (Feed piece ∷ calls) = piece ++ joined calls
joined (Next result ∷ calls) = joined calls

abbrev pub handed : List Call → List (Header × Message)
handed [] = []
handed (Feed piece ∷ calls) = handed calls
handed (Next (Ok x) ∷ calls) = x ∷ handed calls
handed (Next (Err e) ∷ calls) = handed calls

-- each call of `next` answers this fault
abbrev pub AllFault : WireFault → List Call → Type 0
AllFault e [] = ⊤
AllFault e (Feed piece ∷ calls) = AllFault e calls
AllFault e (Next result ∷ calls) = (result ≡ Err e) × AllFault e calls
