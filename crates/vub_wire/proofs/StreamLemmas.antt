-- What a cutter hands out, and the messages of a stream.
use Rattle.std.proofs.Common.{◌≡◌, ℕ, ◌+◌, ◌-◌, ◌^◌, ◌<◌, ◌≤◌, List, [], ◌∷◌, ◌++◌, length, take, drop, refl, sym, ap, subst, ◌∙◌, arith, append_assoc, length-append, length-take}
use Rattle.std.specs.Prelude.{Option, Some, None, Ok, Err}
use Rattle.std.specs.Result.{result_err}
use Rattle.std.proofs.lemmas.List.{append-nil, take-append-drop, drop-drop}
use Rattle.vub_wire.specs.declared.fault.WireFault.{WireFault}
use Rattle.vub_wire.specs.declared.messages.Header.{Header}
use Rattle.vub_wire.specs.declared.messages.Message.{Message}
use Rattle.vub_wire.specs.Grammar.{IsMessage}
use Rattle.vub_wire.specs.Faults.{message_fault}
use Rattle.vub_wire.specs.Reading.{message_at}
use Rattle.vub_wire.specs.Streams.{AreFirst, HasNoMessage, Held, fresh, fed, total, Call, Feed, Next, Ran, joined, handed}
use Rattle.vub_wire.proofs.FrontMessages.{message_again, first_fault}
use Rattle.vub_wire.proofs.WrittenMessages.{one_front}

-- the message at the front of the bytes from a place on goes out
pub hand_out : (s : Held) (bytes part : List ℕ) (start n taken : ℕ) (h : Header) (m : Message) → s.held ≡ drop start bytes → part ≡ drop start bytes
    → IsMessage (take n part) h m → n ≤ length part → taken ≡ total s.taken n
    → (first : List ℕ) × IsMessage first h m × (s.held ≡ first ++ drop (start + n) bytes) × (taken ≡ total s.taken (length first))
hand_out s bytes part start n taken h m held is message long count =
    let size : length (take n part) ≡ n = omega (arith, length-take n part) in
    let behind : drop n part ≡ drop (start + n) bytes = ap (drop n) is ∙ drop-drop n start bytes in
    (take n part, message, held ∙ sym is ∙ sym (take-append-drop n part) ∙ ap (λ (l : List ℕ). take n part ++ l) behind, count ∙ ap (total s.taken) (sym size))

-- ---- any calls

ran_from : (calls : List Call) (s t : Held) → Ran s calls t → AreFirst (s.held ++ joined calls) (handed calls) t.held
ran_from [] s t e = append-nil s.held ∙ sym (ap (λ (x : Held). x.held) e)
ran_from (Feed piece ∷ calls) s t r =
    subst (λ (l : List ℕ). AreFirst l (handed calls) t.held) (append_assoc s.held piece (joined calls)) (ran_from calls (fed piece s) t r)
ran_from (Next (Ok x) ∷ calls) s t (mid, (first, is, held, taken), r) =
    (first, mid.held ++ joined calls, is, ap (λ (l : List ℕ). l ++ joined calls) held ∙ append_assoc first mid.held (joined calls), ran_from calls mid t r)
ran_from (Next (Err e) ∷ calls) s t (mid, (fault, same), r) =
    subst (λ (x : Held). AreFirst (x.held ++ joined calls) (handed calls) t.held) same (ran_from calls mid t r)

pub any_calls : (calls : List Call) (t : Held) → Ran fresh calls t → AreFirst (joined calls) (handed calls) t.held
any_calls calls t r = ran_from calls fresh t r

-- all bytes that were fed are held or counted
counted_from : (calls : List Call) (s t : Held) → Ran s calls t → s.taken < 2 ^ 64 → (t.taken ≡ total s.taken (length s.held + length (joined calls) - length t.held)) × (length t.held ≤ length s.held + length (joined calls))
counted_from [] s t e small =
    let same : t.held ≡ s.held = ap (λ (x : Held). x.held) e in
    let none : length s.held + 0 - length t.held ≡ 0 = omega (arith, ap length same) in
    (ap (λ (x : Held). x.taken) e ∙ omega (arith, small, none), omega (arith, ap length same))
counted_from (Feed piece ∷ calls) s t r small =
    let i = counted_from calls (fed piece s) t r small in
    let a : length (s.held ++ piece) ≡ length s.held + length piece = length-append s.held piece in
    let b : length (piece ++ joined calls) ≡ length piece + length (joined calls) = length-append piece (joined calls) in
    (omega (arith, i.0, i.1, a, b), omega (arith, i.1, a, b))
counted_from (Next (Ok x) ∷ calls) s t (mid, (first, is, held, taken), r) small =
    let i = counted_from calls mid t r (omega (arith, taken)) in
    let a : length s.held ≡ length first + length mid.held = ap length held ∙ length-append first mid.held in
    (omega (arith, i.0, i.1, a, taken), omega (arith, i.1, a))
counted_from (Next (Err e) ∷ calls) s t (mid, (fault, same), r) small =
    let i = counted_from calls mid t r (omega (arith, small, ap (λ (x : Held). x.taken) same)) in
    let a : length mid.held ≡ length s.held = ap (λ (x : Held). length x.held) same in
    let b : mid.taken ≡ s.taken = ap (λ (x : Held). x.taken) same in
    (omega (arith, i.0, i.1, a, b), omega (arith, i.1, a))

pub counted : (calls : List Call) (t : Held) → Ran fresh calls t → t.taken ≡ total 0 (length (joined calls) - length t.held)
counted calls t r =
    let all : 0 + length (joined calls) ≡ length (joined calls) = omega arith in
    (counted_from calls fresh t r (omega arith)).0 ∙ ap (λ (n : ℕ). total 0 (n - length t.held)) all

-- ---- one list of messages

pub one_list : (xs ys : List (Header × Message)) (bytes p q : List ℕ) → AreFirst bytes xs p → AreFirst bytes ys q → HasNoMessage p → HasNoMessage q → (xs ≡ ys) × (p ≡ q)
one_list [] [] bytes p q a b none nor = (refl, sym a ∙ b)
one_list [] (y ∷ ys) bytes p q a (first, more, is, e, r) none nor = absurd (none first more y.0 y.1 is (sym a ∙ e))
one_list (x ∷ xs) [] bytes p q (first, more, is, e, r) b none nor = absurd (nor first more x.0 x.1 is (sym b ∙ e))
one_list (x ∷ xs) (y ∷ ys) bytes p q (first, more, is, e, r) (other, rest, it, f, s) none nor =
    let front = one_front first other more rest x.0 y.0 x.1 y.1 is it (sym e ∙ f) in
    let same : x ≡ y = rw (front.1, front.2) refl in
    let later = one_list xs ys more p q r (subst (λ (l : List ℕ). AreFirst l ys q) (sym front.3) s) none nor in
    (ap (λ (z : Header × Message). z ∷ xs) same ∙ ap (λ (zs : List (Header × Message)). y ∷ zs) later.0, later.1)

no_fault : (o : Option WireFault) (e : WireFault) → o ≡ None → o ≡ Some e → ⊥
no_fault o e none is = absurd cc

-- where a fault is no message stands
pub none_at_fault : (bytes : List ℕ) (e : WireFault) → message_fault bytes ≡ Some e → HasNoMessage bytes
none_at_fault bytes e fault first more h m is whole =
    no_fault (message_fault bytes) e (sym (first_fault bytes) ∙ ap result_err (ap message_at whole ∙ message_again first more h m is)) fault

pub same_messages : (a b : List Call) (s t : Held) → Ran fresh a s → Ran fresh b t → joined a ≡ joined b → HasNoMessage s.held → HasNoMessage t.held → (handed a ≡ handed b) × (s.held ≡ t.held)
same_messages a b s t ran went e none nor =
    one_list (handed a) (handed b) (joined a) s.held t.held (any_calls a s ran) (subst (λ (l : List ℕ). AreFirst l (handed b) t.held) (sym e) (any_calls b t went)) none nor
