-- Which queue an event is of.
use Rattle.std.proofs.Common.{◌≡◌, ◌<◌, ℕ, sym, ◌∙◌, arith}
use Rattle.std.specs.Prelude.{⊤}
use Rattle.vub_base.specs.declared.header.Header1.{Header1}
use Rattle.vub_schedule.specs.Spelling.{IsHeader, IsEvent}
use Rattle.vub_schedule.specs.declared.types.Event.{Event}
use Rattle.vub_schedule.specs.declared.types.Event.TheVariants as events

-- the event is of queue q; the begin of a life, its join and its end are of every queue
abbrev pub IsOn : ℕ → Event → Type 0
IsOn q (events.Ask p shape ask) = p ≡ q
IsOn q (events.Guest p count) = p ≡ q
IsOn q (events.Collect p) = p ≡ q
IsOn q events.Boot = ⊤
IsOn q events.Join = ⊤
IsOn q events.Kill = ⊤
IsOn q (events.Start p) = p ≡ q
IsOn q (events.Fetch p) = p ≡ q
IsOn q (events.Work p place) = p ≡ q
IsOn q (events.Publish p most) = p ≡ q
IsOn q (events.Turn p count) = p ≡ q
IsOn q (events.Drain p) = p ≡ q

-- the grammar has one queue: every event is of it
pub on_one : (h : Header1) (q : ℕ) (e : Event) → IsHeader h → q < h.queues → IsEvent h e → IsOn q e
on_one h q e header low fits = go e fits
  where
    one : q ≡ 0
    one = omega (arith, low, header.one)

    go : (e : Event) → IsEvent h e → IsOn q e
    go (events.Ask p shape ask) is = is.0 ∙ sym one
    go (events.Guest p count) is = is.0 ∙ sym one
    go (events.Collect p) is = is ∙ sym one
    go events.Boot is = tt
    go events.Join is = tt
    go events.Kill is = tt
    go (events.Start p) is = is ∙ sym one
    go (events.Fetch p) is = is ∙ sym one
    go (events.Work p place) is = is.0 ∙ sym one
    go (events.Publish p most) is = is.0 ∙ sym one
    go (events.Turn p count) is = is.0 ∙ sym one
    go (events.Drain p) is = is ∙ sym one
