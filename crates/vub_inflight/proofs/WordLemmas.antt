-- What a store leaves of the words of a region.
use Rattle.std.proofs.Common.{◌≡◌, ◌≢◌, ◌≤◌, ◌<◌, ◌⊎◌, ℕ, ◌+◌, ap, ◌∙◌, inl, inr, arith}
use Rattle.std.proofs.lemmas.Bool.Decides.{nat_tests}
use Rattle.std.proofs.lemmas.Bool.{cases_eq}
use Rattle.byteorder.specs.Endian.{little_bytes}
use Rattle.byteorder.specs.Numbers.{length-bytes_low_first}
use Rattle.vub_shared.specs.Bytes.{Bytes, word, put}
use Rattle.vub_shared.proofs.BytesLemmas.{word-put_other}
use Rattle.vub_inflight.specs.Entries.{with_at}
use Rattle.vub_inflight.specs.Words.{bounded}

-- a number of v bytes that is stored behind a place leaves what stands elsewhere behind it
pub beside : (w v x space place : ℕ) (m : Bytes) (o a : ℕ) → (a + w ≤ o) ⊎ (o + v ≤ a) → word w (put m space (place + o) (little_bytes v x)) space (place + a) ≡ word w m space (place + a)
beside w v x space place m o a h =
    let parts : (place + a + w ≤ place + o) ⊎ (place + o + v ≤ place + a) = grind arith in
    word-put_other w m space (place + o) (little_bytes v x) space (place + a) (inr (rw (length-bytes_low_first 0 v x) parts))

pub bounded_keeps : (n : ℕ) (f g : ℕ → ℕ) → ((i : ℕ) → i < n → f i ≡ g i) → (i : ℕ) → bounded n f i ≡ bounded n g i
bounded_keeps n f g h i = let here : i < n → f i ≡ g i = h i in grind (arith, nat_tests)

pub bounded_set : (n : ℕ) (f g : ℕ → ℕ) (k v : ℕ) → k < n → g k ≡ v → ((i : ℕ) → i < n → i ≢ k → g i ≡ f i) → (i : ℕ) → bounded n g i ≡ with_at (bounded n f) k v i
bounded_set n f g k v l same h i = elim (cases_eq i k) [
  | inl here ↦ let at_i : g i ≡ v = ap g here ∙ same in grind (arith, nat_tests)
  | inr apart ↦ let at_i : i < n → g i ≡ f i = λ b. h i b apart in grind (arith, nat_tests)
]
