-- Split chains. What memory means along every run: each request that is offered and not published, at its head.
use Rattle.std.proofs.Common.{◌≡◌, ◌≤◌, ◌<◌, ℕ, ◌+◌, not, Bool, true, false, List, ◌++◌, length, refl, ap, sym, ◌∙◌, subst, arith}
use Rattle.std.specs.Prelude.{Option, Some, None, slice_index, slice_get}
use Rattle.vub_base.specs.declared.header.Header1.{Header1}
use Rattle.vub_shared.specs.Bytes.{Bytes, word, bytes_from}
use Rattle.vub_driver.specs.Layout.{status_place, area_place}
use Rattle.vub_driver.specs.Requests.{readable_piece, writable_piece}
use Rattle.vub_device.specs.declared.entry.Asked.{Asked}
use Rattle.vub_device.specs.declared.entry.Asked.TheVariants as asks
use Rattle.vub_device.specs.Past.{asked, accepted, published, collected, is_among, open_numbers}
use Rattle.vub_schedule.specs.declared.types.Event.{Event}
use Rattle.vub_report.specs.declared.items.Record.{Record}
use Rattle.vub_split.specs.declared.split.SplitRing.{SplitRing}
use Rattle.vub_direct_chain.specs.declared.chain.Desc.{Desc}
use Rattle.vub_direct_chain.specs.ChainState.{IsRingOf, Meant, desc_in, desc_place, desc_of, data_of, data_start, data_len, body_desc, handed_bytes, type_of, sector_of}
use Rattle.vub_run.specs.Moments.{Moment, unfinished}
use Rattle.vub_run_laws.proofs.RunNumbers.{not_among-take, among_filter, missing-among}
use Rattle.vub_facts.proofs.HeadLemmas.{among_get}
use Rattle.vub_run_laws.proofs.RunFrames.{open_out}
use Rattle.vub_run_laws.proofs.RunGood.{IsSize, IsWide, IsOut}
use Rattle.vub_run_laws.proofs.Runs.{plain_header}
use Rattle.vub_run_laws.proofs.RunTurns.{IsPlain, Good}
use Rattle.vub_run_laws.proofs.RunsTo.{stands_good, stands_chained}
use Rattle.vub_run.specs.Run.{Stands}
use Rattle.vub_run_laws.proofs.RunChains.{table_place, buffer_at, has_body, HasDesc}
use Rattle.vub_run_laws.proofs.RunChainsStores.{handed_fits}
use Rattle.vub_run_laws.proofs.RunChainsTurns.{IsLinked}
use Rattle.vub_run_laws.proofs.RunChainsEvents.{ChainedAt}
use Rattle.vub_direct_chain.proofs.ChainReading.{make}
use Rattle.vub_run_laws.proofs.RunQueue.{head_below}

desc_found : (q : ℕ) (r : SplitRing) (m : Bytes) (d : ℕ) (x : Desc) → r.desc.0.number ≡ 0 → r.desc.1 ≡ area_place q → HasDesc q m d x → desc_in r m d ≡ make x.addr x.len x.flags x.next
desc_found q r m d x space table h =
    let s : ℕ = r.desc.0.number in
    let p : ℕ = desc_place r d in
    let place : p ≡ table_place q d = omega (arith, table) in
    let a : word 8 m s p ≡ x.addr = ap (λ (t : ℕ). word 8 m t p) space ∙ ap (word 8 m 0) place ∙ h.addr in
    let l : word 4 m s (p + 8) ≡ x.len = ap (λ (t : ℕ). word 4 m t (p + 8)) space ∙ ap (λ (e : ℕ). word 4 m 0 (e + 8)) place ∙ h.len in
    let f : word 2 m s (p + 12) ≡ x.flags = ap (λ (t : ℕ). word 2 m t (p + 12)) space ∙ ap (λ (e : ℕ). word 2 m 0 (e + 12)) place ∙ h.flags in
    let n : word 2 m s (p + 14) ≡ x.next = ap (λ (t : ℕ). word 2 m t (p + 14)) space ∙ ap (λ (e : ℕ). word 2 m 0 (e + 14)) place ∙ h.next in
    ap (λ (y : ℕ). make y (word 4 m s (p + 8)) (word 2 m s (p + 12)) (word 2 m s (p + 14))) a
    ∙ ap (λ (y : ℕ). make x.addr y (word 2 m s (p + 12)) (word 2 m s (p + 14))) l
    ∙ ap (λ (y : ℕ). make x.addr x.len y (word 2 m s (p + 14))) f
    ∙ ap (λ (y : ℕ). make x.addr x.len x.flags y) n

body_some : (buffer next : ℕ) (r : Asked) → has_body r ≡ true → body_desc buffer next r ≡ Some (desc_of (data_of buffer r) (Some next))
body_some buffer next (asks.Read s c) some = refl
body_some buffer next (asks.Write s bytes) some = refl
body_some buffer next asks.Flush some = absurd (let fails : false ≡ true = some in cc)
body_some buffer next asks.Id some = refl
body_some buffer next (asks.Discard parts) some = refl
body_some buffer next (asks.Zero parts) some = refl

body_none : (buffer next : ℕ) (r : Asked) → has_body r ≡ false → body_desc buffer next r ≡ None
body_none buffer next (asks.Read s c) none = absurd (let fails : true ≡ false = none in cc)
body_none buffer next (asks.Write s bytes) none = absurd (let fails : true ≡ false = none in cc)
body_none buffer next asks.Flush none = refl
body_none buffer next asks.Id none = absurd (let fails : true ≡ false = none in cc)
body_none buffer next (asks.Discard parts) none = absurd (let fails : true ≡ false = none in cc)
body_none buffer next (asks.Zero parts) none = absurd (let fails : true ≡ false = none in cc)

pub linked_means : (q : ℕ) (sizes : ℕ → ℕ) (r : SplitRing) (n cap : ℕ) (owner : ℕ → Option ℕ) (m : Bytes) (head : ℕ) (o : Option Asked) → IsRingOf q sizes r n → IsSize n → head < n → IsWide cap o → IsLinked q n owner m head o → Meant q sizes r m head o
linked_means q sizes r n cap owner m head o ring size low wide l = go (has_body l.request) refl
  where
    b : ℕ
    b = buffer_at q head

    meant : Asked
    meant = l.request

    is_wide : IsWide cap (Some meant)
    is_wide = subst (λ (x : Option Asked). IsWide cap x) l.is wide

    space : r.desc.0.number ≡ 0
    space = ring.space

    status_fits : l.status < r.size
    status_fits = let fs : l.status < n = l.status_fits in omega (arith, ring.size, fs)

    body_fits : l.body < r.size
    body_fits = let fb : l.body < n = l.body_fits in omega (arith, ring.size, fb)

    last : desc_in r m l.status ≡ desc_of (writable_piece (status_place b) 1) None
    last = desc_found q r m l.status (desc_of (writable_piece (status_place b) 1) None) ring.space ring.table l.stands.last

    kind : word 4 m r.desc.0.number b ≡ type_of meant
    kind = ap (λ (t : ℕ). word 4 m t b) space ∙ l.stands.front.kind

    sector : word 8 m r.desc.0.number (b + 8) ≡ sector_of meant
    sector = ap (λ (t : ℕ). word 8 m t (b + 8)) space ∙ l.stands.front.sector

    handed : bytes_from (length (handed_bytes meant)) m r.desc.0.number (data_start b meant) ≡ handed_bytes meant
    handed = ap (λ (t : ℕ). bytes_from (length (handed_bytes meant)) m t (data_start b meant)) space ∙ l.stands.front.handed

    room : b + (4096 + data_len meant) ≤ sizes r.desc.0.number
    room =
        let many : sizes r.desc.0.number ≡ sizes 0 = ap sizes ring.space in
        let small : n ≤ 64 = size.small in
        omega (arith, many, ring.room, (handed_fits cap b meant is_wide).1.1)

    go : (t : Bool) → has_body meant ≡ t → Meant q sizes r m head o
    go true some =
        let body : desc_in r m l.body ≡ desc_of (data_of b meant) (Some l.status) = desc_found q r m l.body (desc_of (data_of b meant) (Some l.status)) ring.space ring.table (l.stands.middle some) in
        record {
          links = record { head = head; body = Some l.body; status = l.status };
          at_head = refl;
          request = meant;
          is = l.is;
          means = record {
            first = desc_found q r m head (desc_of (readable_piece b 16) (Some l.body)) ring.space ring.table l.stands.first;
            body = ap (λ (x : Desc). Some x) body ∙ sym (body_some b l.status meant some);
            last = last;
            second_fits = body_fits;
            status_fits = status_fits;
            kind = kind;
            sector = sector;
            handed = handed;
            room = room;
          };
        }
    go false none =
        let same : l.body ≡ l.status = l.stands.none none in
        record {
          links = record { head = head; body = None; status = l.status };
          at_head = refl;
          request = meant;
          is = l.is;
          means = record {
            first = desc_found q r m head (desc_of (readable_piece b 16) (Some l.body)) ring.space ring.table l.stands.first ∙ ap (λ (d : ℕ). desc_of (readable_piece b 16) (Some d)) same;
            body = sym (body_none b l.status meant none);
            last = last;
            second_fits = status_fits;
            status_fits = status_fits;
            kind = kind;
            sector = sector;
            handed = handed;
            room = room;
          };
        }

-- at a moment: each request that is offered and not collected
pub moment_means : (q : ℕ) (h : Header1) (m : Moment) (sizes : ℕ → ℕ) (r : SplitRing) (k : ℕ) → IsPlain h → Good q h m → ChainedAt q h m → IsRingOf q sizes r h.size → IsOut q m.scene.past (m.scene.heads q) k
    → Meant q sizes r m.scene.memory (slice_index (m.scene.heads q) k) (asked m.scene.past q k)
moment_means q h m sizes r k plain good c ring out =
    linked_means q sizes r h.size h.capacity (m.lanes q).driver.owner m.scene.memory (slice_index (m.scene.heads q) k) (asked m.scene.past q k) ring plain.good.size (head_below q h m.scene (m.lanes q).driver (m.lanes q).bell (m.lanes q).plan (m.lanes q).counter (m.lanes q).batch (m.lanes q).phase k good.holds.queue out) (good.holds.known.wide k out.below) (c.linked k out)

-- a request that isn't published isn't collected
pub unpublished_out : (q : ℕ) (h : Header1) (m : Moment) (k : ℕ) → k < length (m.scene.heads q) → is_among (published m.scene.past q) k ≡ false → IsOut q m.scene.past (m.scene.heads q) k
unpublished_out q h m k low new = record { below = low; kept = not_among-take (published m.scene.past q) (collected m.scene.past q) k new }

-- where a run leads, memory means each request that is offered and not published
pub stands_means : (q : ℕ) (h : Header1) (es : List Event) (rs : List Record) (n : Moment) (sizes : ℕ → ℕ) (r : SplitRing) (k : ℕ) → q < h.queues → Stands h es rs n → IsRingOf q sizes r h.size → k < length (n.scene.heads q) → is_among (published n.scene.past q) k ≡ false
    → Meant q sizes r n.scene.memory (slice_index (n.scene.heads q) k) (asked n.scene.past q k)
stands_means q h es rs n sizes r k exists s ring low new =
    moment_means q h n sizes r k (plain_header h s.header) (stands_good q h es rs n exists s) (stands_chained q h es rs n exists s) ring (unpublished_out q h n k low new)

-- the request of which a turn makes the next step
pub work_means : (q : ℕ) (h : Header1) (m : Moment) (sizes : ℕ → ℕ) (r : SplitRing) (place k : ℕ) → IsPlain h → Good q h m → ChainedAt q h m → IsRingOf q sizes r h.size → slice_get (unfinished q m) place ≡ Some k
    → Meant q sizes r m.scene.memory (slice_index (m.scene.heads q) k) (asked m.scene.past q k)
work_means q h m sizes r place k plain good c ring is =
    let kept = among_filter (λ j. not (is_among ((m.lanes q).completed ++ (m.lanes q).batch) j)) (open_numbers m.scene.past q) k (among_get (unfinished q m) place k is) in
    let opened = missing-among (published m.scene.past q) (accepted m.scene.past q) k kept.0 in
    moment_means q h m sizes r k plain good c ring (open_out q h.size h.capacity m.scene.past (m.scene.heads q) k good.holds.known (record { taken = opened.0; unpublished = opened.1 }))
