-- What stores elsewhere leave.
use Rattle.std.proofs.Common.{◌≡◌, ◌≢◌, ◌≤◌, ◌<◌, ◌⊎◌, ℕ, ◌+◌, ◌*◌, true, false, List, ◌++◌, length, ◌∙◌, inl, inr, arith, []}
use Rattle.std.specs.Prelude.{slice_index}
use Rattle.byteorder.specs.Endian.{little_bytes}
use Rattle.byteorder.specs.Numbers.{length-bytes_low_first}
use Rattle.std.proofs.lemmas.Bool.{cases_Bool, cases_lt}
use Rattle.vub_base.specs.declared.store.Tag.{Tag}
use Rattle.vub_base.specs.declared.store.Area.TheVariants.{M}
use Rattle.vub_shared.specs.Bytes.{Bytes, put, word}
use Rattle.vub_shared.proofs.BytesLemmas.{put_other, word-put_other}
use Rattle.vub_driver.specs.Layout.{area_place, status_place, sectors_place}
use Rattle.vub_device.specs.declared.entry.Entry.{Entry}
use Rattle.vub_device.specs.Past.{accepted, published, collected, is_among, IsOpen}
use Rattle.vub_report.specs.declared.items.Item.TheVariants as items
use Rattle.vub_run.specs.Memory.{Scene}
use Rattle.vub_run.specs.Spared.{IsUncollected, IsSparing}
use Rattle.vub_run_laws.proofs.RunNumbers.{not_among-take}
use Rattle.vub_run_laws.proofs.RunGood.{Known, IsOut, Stored, buffer}

-- an open number is offered and not collected
pub open_out : (q n cap : ℕ) (past : List Entry) (heads : List ℕ) (k : ℕ) → Known q n cap past heads → IsOpen past q k → IsOut q past heads k
open_out q n cap past heads k known open_k = record {
  below = omega (arith, open_k.taken, known.offered);
  kept = not_among-take (published past q) (collected past q) k open_k.unpublished;
}

-- the number that is accepted next isn't published, and is offered and not collected where an offer isn't accepted
pub next_unpublished : (q n cap : ℕ) (past : List Entry) (heads : List ℕ) → Known q n cap past heads → is_among (published past q) (accepted past q) ≡ false
next_unpublished q n cap past heads known = elim (cases_Bool (is_among (published past q) (accepted past q))) [
  | inl held ↦ absurd (omega (arith, known.below (accepted past q) held))
  | inr none ↦ none
]

pub waiting_out : (q n cap : ℕ) (past : List Entry) (heads : List ℕ) → Known q n cap past heads → accepted past q < length heads → IsOut q past heads (accepted past q)
waiting_out q n cap past heads known more = record {
  below = more;
  kept = not_among-take (published past q) (collected past q) (accepted past q) (next_unpublished q n cap past heads known);
}

pub keeps : (w : ℕ) (m : Bytes) (p : ℕ) (bs : List ℕ) (q : ℕ) → (q + w ≤ p) ⊎ (p + length bs ≤ q) → word w (put m 0 p bs) 0 q ≡ word w m 0 q
keeps w m p bs q h = word-put_other w m 0 p bs 0 q (inr h)

-- a store into the in-flight region leaves each byte of guest memory, and each word
pub byte_stays : (m : Bytes) (p : ℕ) (bs : List ℕ) (q : ℕ) → put m 1 p bs 0 q ≡ m 0 q
byte_stays m p bs q = put_other m 1 p bs 0 q (inl (λ e. omega (arith, e)))

pub word_stays : (w : ℕ) (m : Bytes) (p : ℕ) (bs : List ℕ) (q : ℕ) → word w (put m 1 p bs) 0 q ≡ word w m 0 q
word_stays w m p bs q = word-put_other w m 1 p bs 0 q (inl (λ e. omega (arith, e)))

-- outside the buffer of a number
abbrev pub OffBuffer : ℕ → List ℕ → ℕ → ℕ → List ℕ → Type 0
OffBuffer q heads k p bs = (p + length bs ≤ buffer q heads k) ⊎ (buffer q heads k + 8192 ≤ p)

pub sector_elsewhere : (q : ℕ) (heads : List ℕ) (k i : ℕ) (m : Bytes) (p : ℕ) (bs : List ℕ) → i < 4096 → OffBuffer q heads k p bs → put m 0 p bs 0 (sectors_place (buffer q heads k) + i) ≡ m 0 (sectors_place (buffer q heads k) + i)
sector_elsewhere q heads k i m p bs small (inl below) = put_other m 0 p bs 0 (sectors_place (buffer q heads k) + i) (inr (inr (omega arith)))
sector_elsewhere q heads k i m p bs small (inr above) = put_other m 0 p bs 0 (sectors_place (buffer q heads k) + i) (inr (inl (omega arith)))

pub status_elsewhere : (q : ℕ) (heads : List ℕ) (k : ℕ) (m : Bytes) (p : ℕ) (bs : List ℕ) → OffBuffer q heads k p bs → put m 0 p bs 0 (status_place (buffer q heads k)) ≡ m 0 (status_place (buffer q heads k))
status_elsewhere q heads k m p bs (inl below) = put_other m 0 p bs 0 (status_place (buffer q heads k)) (inr (inr (omega arith)))
status_elsewhere q heads k m p bs (inr above) = put_other m 0 p bs 0 (status_place (buffer q heads k)) (inr (inl (omega arith)))

pub stored_elsewhere : (q : ℕ) (past : List Entry) (heads : List ℕ) (m : Bytes) (p : ℕ) (bs batch completed : List ℕ) (made : ℕ → ℕ)
    → ((k : ℕ) → is_among (completed ++ batch) k ≡ true → IsOpen past q k) → ((k : ℕ) → IsOpen past q k → OffBuffer q heads k p bs)
    → Stored q past heads m batch completed made → Stored q past heads (put m 0 p bs) batch completed made
stored_elsewhere q past heads m p bs batch completed made opens off s = record {
  sectors = λ k i open_k kept read. sector_elsewhere q heads k i m p bs kept.small (off k open_k) ∙ s.sectors k i open_k kept read;
  status = λ k held. status_elsewhere q heads k m p bs (off k (opens k held)) ∙ s.status k held;
}

-- below all buffers
pub below_buffers : (q : ℕ) (heads : List ℕ) (k p : ℕ) (bs : List ℕ) → p + length bs ≤ area_place q + 65536 → OffBuffer q heads k p bs
below_buffers q heads k p bs low = inl (omega arith)

-- in the buffer of another head
pub other_buffer : (q : ℕ) (heads : List ℕ) (k head p : ℕ) (bs : List ℕ) → slice_index heads k ≢ head → area_place q + (65536 + 8192 * head) ≤ p → p + length bs ≤ area_place q + (65536 + 8192 * head) + 8192 → OffBuffer q heads k p bs
other_buffer q heads k head p bs apart from upto = elim (cases_lt (slice_index heads k) head) [
  | inl less ↦ inr (omega arith)
  | inr more ↦ inl (let above : head < slice_index heads k = omega arith in omega arith)
]

-- a store off the buffer of each request that is published and not collected
pub off_spares : (q : ℕ) (s : Scene) (tag : Tag) (p : ℕ) (bs : List ℕ) → ((k : ℕ) → IsUncollected q s k → OffBuffer q (s.heads q) k p bs) → IsSparing q s (items.Store tag M p bs)
off_spares q s tag p bs off = λ other k out. elim (off k out) [
  | inl below ↦ inr (inr below)
  | inr above ↦ inr (inl above)
]

-- ---- the avail entry that comes next

pub length_little : (w x : ℕ) → length (little_bytes w x) ≡ w
length_little w x = length-bytes_low_first 0 w x

pub none_out : (q k : ℕ) → IsOut q [] [] k → ⊥
none_out q k out = let low : k < 0 = out.below in omega arith
