use Rattle.std.proofs.Common.{◌≡◌, ◌≤◌, ◌+◌, ◌∙◌, ℕ, sym, ap, arith, add-zero, refl, subst}
use Rattle.std.proofs.lemmas.Result.{err_from_is_err_and}
use Rattle.vub_shared.specs.Bytes.{word}
use Rattle.vub_direct_chain.specs.declared.chain.Parts.{Parts}
use Rattle.vub_direct_chain.specs.ChainState.{parts_of, failed}
use Rattle.vub_task.specs.TaskState.{FirstWork}
use Rattle.vub_direct_chain.proofs.ChainReading.{reads_err}
use Rattle.vub_task.proofs.TaskLemmas.{first_is, loaded_field}
use Rattle.vub_task.proofs.task.Task.begin.Goals as goal

pub returns-in_err-parts-clause-begins : goal.returns-in_err-parts-clause-begins
returns-in_err-parts-clause-begins g c h l buffer request step m told means is served at =
    let p = err_from_is_err_and c.from_residual.result c.from_residual.ensures.1 in
    let failed = c.in_err-parts.ensures.read l buffer request m told means is in
    rw (p.1, p.2) (reads_err c.in_err-parts.field-0.0 _ _ failed)

pub returns-then-header-clause-begins : goal.returns-then-header-clause-begins
returns-then-header-clause-begins g c h l buffer request step m told means is served at =
    let r = c.args.ring.now in
    let parts : c.in_ok-parts.parts ≡ parts_of r buffer request = c.in_ok-parts.ensures.read l buffer request m told means is in
    let header = c.in_ok-parts.parts.header in
    let len : header.len ≡ 16 = ap (λ (p : Parts). p.header.len) parts in
    absurd (omega (arith, len, c.if-header.true))

pub returns-clause-begins : goal.returns-clause-begins
returns-clause-begins g c h l buffer request step m told means is served at =
    let r = c.args.ring.now in
    let parts : c.in_ok-parts.parts ≡ parts_of r buffer request = c.in_ok-parts.ensures.read l buffer request m told means is in
    let place = ap (λ (p : Parts). p.header.place) parts in
    let space = ap (λ (p : Parts). p.header.space.number) parts in
    let good = sym c.is_err.ensures.value ∙ c.if-is_err.false in
    let now = c.read_chain.ensures.only_loads.same_told ∙ told in
    let kind = loaded_field 0 4 16 c.load.new.into _ m _ _ r.desc.0.number buffer c.load.result now good (omega arith) space place c.load.ensures.loaded in
    let sector = loaded_field 8 8 16 c.load.new.into _ m _ _ r.desc.0.number buffer c.load.result now good (omega arith) space place c.load.ensures.loaded in
    let kinds = kind ∙ ap (λ (q : ℕ). word 4 m r.desc.0.number q) (add-zero buffer) in
    first_is h r buffer request c.first_work.result step _ _ _ _ parts (c.get_u32-kind.ensures ∙ kinds ∙ means.kind) (c.get_u64-sector.ensures ∙ sector ∙ means.sector) served at c.first_work.ensures.first

pub returns-then-is_err-clause-starts : goal.returns-then-is_err-clause-starts
returns-then-is_err-clause-starts g c m told = failed

pub returns-clause-starts : goal.returns-clause-starts
returns-clause-starts g c m told =
    let header = c.in_ok-parts.parts.header in
    let good = sym c.is_err.ensures.value ∙ c.if-is_err.false in
    let now = c.read_chain.ensures.only_loads.same_told ∙ told in
    let kind = loaded_field 0 4 16 c.load.new.into _ m _ _ header.space.number header.place c.load.result now good (omega arith) refl refl c.load.ensures.loaded in
    let sector = loaded_field 8 8 16 c.load.new.into _ m _ _ header.space.number header.place c.load.result now good (omega arith) refl refl c.load.ensures.loaded in
    let kinds : c.get_u32-kind.result ≡ word 4 m header.space.number header.place = c.get_u32-kind.ensures ∙ kind ∙ ap (λ (q : ℕ). word 4 m header.space.number q) (add-zero header.place) in
    let sectors : c.get_u64-sector.result ≡ word 8 m header.space.number (header.place + 8) = c.get_u64-sector.ensures ∙ sector in
    let w = c.first_work.result in
    let first : FirstWork c.in_ok-parts.parts c.get_u32-kind.result c.get_u64-sector.result c.args.capacity w = c.first_work.ensures.first in
    let by_kind = subst (λ (k : ℕ). FirstWork c.in_ok-parts.parts k c.get_u64-sector.result c.args.capacity w) kinds first in
    let by_sector = subst (λ (k : ℕ). FirstWork c.in_ok-parts.parts (word 4 m header.space.number header.place) k c.args.capacity w) sectors by_kind in
    let long : 16 ≤ header.len = omega (arith, c.if-header.false) in
    (c.in_ok-parts.parts, c.in_ok-parts.ensures.means m told, record { short = λ less. absurd (omega (arith, less, long)); whole = λ enough. by_sector })
