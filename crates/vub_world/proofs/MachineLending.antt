-- What an event lends, and what the machine keeps of it.
use Rattle.std.proofs.Common.{◌≡◌, ◌<◌, ◌≤◌, ◌+◌, ◌-◌, ◌^◌, refl, ap, sym, ◌∙◌, subst, arith}
use Rattle.std.specs.Prelude.{Some, None, Result, Ok, Err, ⊤}
use Rattle.std.specs.Borrow.{Bor}
use Rattle.vub_base.specs.declared.faults.Memory.{Memory}
use Rattle.vub_report.specs.declared.items.Record.{Record}
use Rattle.vub_schedule.specs.declared.types.Event.{Event}
use Rattle.vub_world.specs.declared.machine.Machine.{Machine}
use Rattle.vub_world.specs.DriverSides.{offers_in}
use Rattle.vub_world.specs.Lending.{HasPlayed, Lends, with_record}
use Rattle.vub_world.specs.Machine.{IsSound, HaveNumbers, KeepsLast}
use Rattle.vub_world.proofs.MachineParts.{few_of_each, few_of_one}

-- each queue has a number left just where few were offered in all
pub numbers_few : (w : Machine) → IsSound w → HaveNumbers w → offers_in w < 2 ^ 64 - 1
numbers_few w sound have = few_of_one (2 ^ 64 - 1) w.sides.items (sound.many ∙ sound.header.one) have

pub none_left : (w : Machine) → (HaveNumbers w → ⊥) → 2 ^ 64 - 1 ≤ offers_in w
none_left w none = let many : offers_in w < 2 ^ 64 - 1 → ⊥ = λ few. none (few_of_each (2 ^ 64 - 1) w.sides.items few) in omega (arith, many)

-- with another record the machine is sound
pub recorded_sound : (r : Record) (spare : ⊤) (w : Machine) → IsSound w → IsSound (with_record r spare w)
recorded_sound r spare w sound = record {
  header = sound.header;
  many = sound.many;
  backend = sound.backend;
  disk = sound.disk;
  headers = sound.headers;
  parts = λ q f is. sound.parts q f is;
}

pub keeps_last : (w : Machine) (r : Record) → w.last ≡ Some r → KeepsLast w
keeps_last w r is none = absurd (let e : Some r ≡ None = sym is ∙ none in cc e)

-- the event was played
pub lends_played : (w now : Machine) (e : Event) (r : Record) (lent : Bor Record) → offers_in w < 2 ^ 64 - 1 → now.header ≡ w.header → offers_in now ≤ offers_in w + 1 → HasPlayed w now e r → Some lent.now ≡ now.last → Lends w now e (Ok lent)
lends_played w now e r lent few header offers played last =
    let both : Some r ≡ Some lent.now = sym played.last ∙ sym last in
    let same : r ≡ lent.now = cc both in record {
      header = header;
      offers = offers;
      plays = λ left. subst (λ (x : Record). HasPlayed w now e x) same played;
      rests = λ none. absurd (omega (arith, few, none));
    }

-- it was refused
pub lends_nothing : (w now : Machine) (e : Event) (result : Result (Bor Record) Memory) (fault : Memory) → offers_in w < 2 ^ 64 - 1 → now ≡ w → result ≡ Err fault → Lends w now e result
lends_nothing w now e result fault few same is = subst (λ (x : Result (Bor Record) Memory). Lends w now e x) (sym is) (record {
  header = ap (λ (x : Machine). x.header) same;
  offers = subst (λ (x : Machine). offers_in x ≤ offers_in w + 1) (sym same) (omega arith);
  plays = λ left. same;
  rests = λ none. absurd (omega (arith, few, none));
})

-- no number is left
pub lends_last : (w : Machine) (e : Event) (lent : Bor Record) → 2 ^ 64 - 1 ≤ offers_in w → Some lent.now ≡ w.last → Lends w w e (Ok lent)
lends_last w e lent many last = record {
  header = refl;
  offers = omega arith;
  plays = λ left. absurd (omega (arith, many, left));
  rests = λ none. (refl, sym last);
}
