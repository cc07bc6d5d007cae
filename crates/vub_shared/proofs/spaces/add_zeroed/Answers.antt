use Rattle.std.proofs.Common.{◌∙◌, ap, List, ℕ, length}
use Rattle.std.proofs.lemmas.List.{length-replicate}
use Rattle.vub_shared.specs.Held.{image, meaning, space_size}
use Rattle.vub_shared.proofs.ImageLemmas.{image-push, size-push, size-pushed}
use Rattle.vub_shared.proofs.MeaningLemmas.{meaning-add}
use Rattle.vub_shared.proofs.spaces.add_zeroed.Goals as goal

pub returns-clause-zeroed : goal.returns-clause-zeroed
returns-clause-zeroed c t q =
    ap (λ hs. image hs t q) c.in_ok-add.ensures.added ∙ image-push c.args.spaces.now.items c.in_ok-held.held c.args.size c.in_ok-held.ensures.bytes t q

pub returns-clause-named : goal.returns-clause-named
returns-clause-named c other =
    ap (λ hs. meaning hs other) c.in_ok-add.ensures.added ∙ meaning-add c.args.spaces.now.items c.in_ok-held.held c.args.name.now c.in_ok-held.ensures.name other

pub returns-clause-sized : goal.returns-clause-sized
returns-clause-sized c =
    ap (λ hs. space_size hs (length c.args.spaces.now.items)) c.in_ok-add.ensures.added ∙ size-pushed c.args.spaces.now.items c.in_ok-held.held ∙ ap (λ (xs : List ℕ). length xs) c.in_ok-held.ensures.bytes ∙ length-replicate c.args.size 0

pub returns-clause-sizes : goal.returns-clause-sizes
returns-clause-sizes c s apart =
    ap (λ hs. space_size hs s) c.in_ok-add.ensures.added ∙ size-push c.args.spaces.now.items c.in_ok-held.held s apart
