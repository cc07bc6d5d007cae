use Rattle.std.proofs.Common.{◌≡◌, ◌<◌, ◌≤◌, ◌+◌, ◌-◌, sym, subst, inl, inr, lit<, ◌∙◌, ap, ℕ, List, take, drop, length, get_or, arith, rules, refl}
use Rattle.std.proofs.lemmas.Grind.{common_steps}
use Rattle.std.proofs.lemmas.List.{places}
use Rattle.std.proofs.lemmas.Bool.{cases_lt}
use Rattle.vub_shared.specs.Held.{space_bytes, image}
use Rattle.vub_shared.proofs.ImageLemmas.{loaded-image}
use Rattle.vub_shared.proofs.watched_shared.WatchedShared.bytes.Goals as goal

part-length : (xs : List ℕ) (p w : ℕ) → p + w ≤ length xs → length (take (p + w - p) (drop p xs)) ≡ w
part-length xs p w room = grind (arith, places)

part-get : (xs : List ℕ) (p w : ℕ) → p + w ≤ length xs → (i : ℕ) → i < w → get_or (take (p + w - p) (drop p xs)) i 0 ≡ get_or xs (p + i) 0
part-get xs p w room i l = grind (arith, places)

part-fits : (xs : List ℕ) (p w : ℕ) → p + w ≤ length xs → ((i : ℕ) → get_or xs i 0 < 256) → (i : ℕ) → get_or (take (p + w - p) (drop p xs)) i 0 < 256
part-fits xs p w room fits i = elim (cases_lt i w) [
  | inl l ↦ subst (λ (v : ℕ). v < 256) (sym (part-get xs p w room i l)) (fits (p + i))
  | inr past ↦ subst (λ (v : ℕ). v < 256) (sym (get_or_past (take (p + w - p) (drop p xs)) i (omega (arith, part-length xs p w room)))) (lit< tt)
]
  where
    get_or_past : (ys : List ℕ) (i : ℕ) → length ys ≤ i → get_or ys i 0 ≡ 0
    get_or_past ys i past = grind (arith, common_steps)

pub returns : goal.returns
returns c =
    let spaces = c.args.self.now.memory.spaces.items in
    let ys : List ℕ = take (c.args.place + c.args.len - c.args.place) (drop c.args.place c.image-image.result.now) in
    let room : c.args.place + c.args.len ≤ length c.image-image.result.now = subst (λ (xs : List ℕ). c.args.place + c.args.len ≤ length xs) (sym c.image-image.ensures) c.requires in
    let small : (i : ℕ) → get_or c.image-image.result.now i 0 < 256 = λ i. search rules in
    let same : (i : ℕ) → i < c.args.len → get_or ys i 0 ≡ get_or (space_bytes spaces c.args.space.number) (c.args.place + i) 0 =
    λ i l. part-get c.image-image.result.now c.args.place c.args.len room i l ∙ ap (λ (xs : List ℕ). get_or xs (c.args.place + i) 0) c.image-image.ensures in
    loaded-image spaces c.args.space.number c.args.place c.args.len ys (part-length c.image-image.result.now c.args.place c.args.len room) same (part-fits c.image-image.result.now c.args.place c.args.len room small) (image spaces) refl
