use Rattle.std.proofs.Common.{◌≡◌, ◌≤◌, ◌<◌, ◌∙◌, ap, sym, ℕ, List, length, arith}
use Rattle.std.specs.Prelude.{string_bytes}
use Rattle.std.proofs.lemmas.Grind.{common_steps}
use Rattle.vub_shared.specs.Splices.{splice}
use Rattle.vub_shared.specs.Held.{image, space_size}
use Rattle.vub_shared.proofs.BytesLemmas.{put_other}
use Rattle.vub_shared.proofs.ImageLemmas.{image-overwritten, size-overwritten, space_bytes-get, space_bytes-past}
use Rattle.vub_shared.proofs.MeaningLemmas.{meaning-set}
use Rattle.vub_shared.proofs.spaces.write.Goals as goal

pub returns-then-space-len-clause-put : goal.returns-then-space-len-clause-put
returns-then-space-len-clause-put c t q =
    let held : c.args.space < length c.args.spaces.now.items = grind (arith, common_steps) in
    let is = c.overwrite.ensures.bytes ∙ ap (λ (xs : List ℕ). splice xs c.args.place c.args.bytes.now) (ap (λ v. v.bytes.items) c.index_mut-held.ensures.value ∙ sym (space_bytes-get c.args.spaces.now.items c.args.space c.index_mut-held.result.now held)) in
    image-overwritten c.args.spaces.now.items c.args.space c.args.place c.args.bytes.now c.overwrite.new.self held is c.requires (λ k. omega (arith, c.type_inv.bytes k)) t q

pub returns-then-space-len-clause-sizes : goal.returns-then-space-len-clause-sizes
returns-then-space-len-clause-sizes c t =
    let held : c.args.space < length c.args.spaces.now.items = grind (arith, common_steps) in
    let is = c.overwrite.ensures.bytes ∙ ap (λ (xs : List ℕ). splice xs c.args.place c.args.bytes.now) (ap (λ v. v.bytes.items) c.index_mut-held.ensures.value ∙ sym (space_bytes-get c.args.spaces.now.items c.args.space c.index_mut-held.result.now held)) in
    size-overwritten c.args.spaces.now.items c.args.space c.args.place c.args.bytes.now c.overwrite.new.self held is c.requires t

pub returns-then-space-len-clause-names : goal.returns-then-space-len-clause-names
returns-then-space-len-clause-names c name =
    let held : c.args.space < length c.args.spaces.now.items = grind (arith, common_steps) in
    let same = c.overwrite.ensures.name ∙ ap (λ v. string_bytes v.name) c.index_mut-held.ensures.value in
    meaning-set 0 c.args.spaces.now.items c.args.space c.overwrite.new.self c.index_mut-held.result.now held same name

pub returns-else-space-len-clause-put : goal.returns-else-space-len-clause-put
returns-else-space-len-clause-put c t q =
    let past : length c.args.spaces.now.items ≤ c.args.space = grind (arith, common_steps) in
    let none : space_size c.args.spaces.now.items c.args.space ≡ 0 = ap (λ (xs : List ℕ). length xs) (space_bytes-past c.args.spaces.now.items c.args.space past) in
    sym (put_other (image c.args.spaces.now.items) c.args.space c.args.place c.args.bytes.now t q (grind (arith, none)))
