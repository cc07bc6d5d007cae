-- From the end of a replay to its status, and from the input to the status.
use Rattle.std.proofs.Common.{◌≡◌, ℕ, List, ◌≤◌, length, arith, refl, sym, subst, ◌∙◌, Option, Some, ◌⊎◌, inl, inr}
use Rattle.vub_schedule.specs.Spelling.{IsText}
use Rattle.vub_schedule.specs.Faults.{IsFirstBad}
use Rattle.vub_schedule.proofs.Texts.{not_spelled}
use Rattle.vublk.specs.Flows.{input_limit}
use Rattle.vublk.specs.declared.words.Command.{Command}
use Rattle.vublk.specs.declared.replay.End.{End}
use Rattle.vublk.specs.declared.replay.End.TheVariants.{Done, Memory, ReadFault, WriteFault, BadLine, TooLong}
use Rattle.vublk.specs.Ends.{Replays, status_of}
use Rattle.vublk.specs.Statuses.{IsUnlessFault}

-- ---- a fault has its status

pub is_4 : (e : End) → status_of e ≡ 4 → e ≡ ReadFault
is_4 Done z = absurd cc
is_4 Memory z = absurd cc
is_4 ReadFault z = refl
is_4 WriteFault z = absurd cc
is_4 (BadLine n) z = absurd cc
is_4 TooLong z = absurd cc

pub is_5 : (e : End) → status_of e ≡ 5 → e ≡ WriteFault
is_5 Done z = absurd cc
is_5 Memory z = absurd cc
is_5 ReadFault z = absurd cc
is_5 WriteFault z = refl
is_5 (BadLine n) z = absurd cc
is_5 TooLong z = absurd cc

-- ---- each input comes to one status, but for faults

abbrev fault_3 : (wanted : ℕ) → IsUnlessFault wanted 3
fault_3 wanted = inr (inl refl)

abbrev fault_4 : (wanted : ℕ) → IsUnlessFault wanted 4
fault_4 wanted = inr (inr (inl refl))

abbrev fault_5 : (wanted : ℕ) → IsUnlessFault wanted 5
fault_5 wanted = inr (inr (inr refl))

plays_of : (c : Command) (text : List ℕ) (after old new : Option (List ℕ)) (e : End) → Replays c (Some text) after old new e → IsText text → length text ≤ input_limit → IsUnlessFault 0 (status_of e)
plays_of c text after old new Done p is fits = inl refl
plays_of c text after old new Memory p is fits = fault_3 0
plays_of c text after old new ReadFault p is fits = fault_4 0
plays_of c text after old new WriteFault p is fits = fault_5 0
plays_of c text after old new (BadLine n) p is fits = absurd (not_spelled p.0 n is.0 p.3.0 is.1 (sym p.1.0 ∙ is.2))
plays_of c text after old new TooLong p is fits = absurd (omega (arith, p.1, fits))

finds_of : (c : Command) (text : List ℕ) (after old new : Option (List ℕ)) (e : End) (n : ℕ) → Replays c (Some text) after old new e → IsFirstBad text n → length text ≤ input_limit → IsUnlessFault 6 (status_of e)
finds_of c text after old new Done n p bad fits = absurd (not_spelled text n p.3.0 bad p.3.1 (p.1.0 ∙ p.3.2))
finds_of c text after old new Memory n p bad fits = fault_3 6
finds_of c text after old new ReadFault n p bad fits = fault_4 6
finds_of c text after old new WriteFault n p bad fits = fault_5 6
finds_of c text after old new (BadLine m) n p bad fits = inl refl
finds_of c text after old new TooLong n p bad fits = absurd (omega (arith, p.1, fits))

at : (c : Command) (left after old new : Option (List ℕ)) (e : End) (text : List ℕ) → Replays c left after old new e → left ≡ Some text → Replays c (Some text) after old new e
at c left after old new e text p told = subst (λ (l : Option (List ℕ)). Replays c l after old new e) told p

pub plays : (c : Command) (left after old new : Option (List ℕ)) (e : End) (status : ℕ) → status ≡ status_of e → Replays c left after old new e
    → (text : List ℕ) → left ≡ Some text → IsText text → length text ≤ input_limit → IsUnlessFault 0 status
plays c left after old new e status same p text told is fits = rw same (plays_of c text after old new e (at c left after old new e text p told) is fits)

pub finds : (c : Command) (left after old new : Option (List ℕ)) (e : End) (status : ℕ) → status ≡ status_of e → Replays c left after old new e
    → (text : List ℕ) → left ≡ Some text → (n : ℕ) → IsFirstBad text n → length text ≤ input_limit → IsUnlessFault 6 status
finds c left after old new e status same p text told n bad fits = rw same (finds_of c text after old new e n (at c left after old new e text p told) bad fits)

pub completes : (e : End) (status : ℕ) (Read Write : Type 0) → status ≡ status_of e → IsUnlessFault 0 status → (e ≡ ReadFault → Read) → (e ≡ WriteFault → Write) → (Read → ⊥) → (Write → ⊥) → (status ≡ 0) ⊎ (status ≡ 3)
completes e status Read Write same (inl z) read write no_read no_write = inl z
completes e status Read Write same (inr (inl z)) read write no_read no_write = inr z
completes e status Read Write same (inr (inr (inl z))) read write no_read no_write = absurd (no_read (read (is_4 e (sym same ∙ z))))
completes e status Read Write same (inr (inr (inr z))) read write no_read no_write = absurd (no_write (write (is_5 e (sym same ∙ z))))
