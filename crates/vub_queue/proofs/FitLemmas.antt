-- Heads and lengths that a queue keeps fit their words.
use Rattle.std.proofs.Common.{◌≡◌, ◌≤◌, ◌<◌, ℕ, zero, suc, true, List, [], ◌∷◌, length, get_or, map, take, drop, sym, subst, arith}
use Rattle.std.proofs.lemmas.List.{take-map}
use Rattle.vub_queue.specs.declared.queue.Completed.{Completed}
use Rattle.vub_queue.specs.declared.queue.Queue.{Queue}
use Rattle.vub_facts.specs.Facts.{ElementsFit}
use Rattle.vub_queue.specs.QueueParts.{element, elements_fit}
use Rattle.vub_queue.specs.QueueState.{state_of}
use Rattle.vub_queue.proofs.QueueLemmas.{below_first, len_first, below_rest, below_take, below_drop}
use Rattle.vub_queue.proofs.BeginFacts.{BatchesFit}

id_fits : (size : ℕ) (xs : List Completed) (e : ℕ) → size ≤ 1024 → elements_fit size xs ≡ true → e < length (map element xs) → (get_or (map element xs) e (0, 0)).0 < 4294967296
id_fits size [] e few fits low = absurd (omega (arith, low))
id_fits size (x ∷ xs) zero few fits low = omega (arith, few, below_first size x xs fits)
id_fits size (x ∷ xs) (suc e) few fits low = id_fits size xs e few (below_rest size x xs fits) (omega (arith, low))

len_fits : (size : ℕ) (xs : List Completed) (e : ℕ) → elements_fit size xs ≡ true → e < length (map element xs) → (get_or (map element xs) e (0, 0)).1 < 4294967296
len_fits size [] e fits low = absurd (omega (arith, low))
len_fits size (x ∷ xs) zero fits low = len_first size x xs fits
len_fits size (x ∷ xs) (suc e) fits low = len_fits size xs e (below_rest size x xs fits) (omega (arith, low))

all_fit : (size : ℕ) (xs : List Completed) → size ≤ 1024 → elements_fit size xs ≡ true → ElementsFit (map element xs)
all_fit size xs few fits = record { ids = λ e low. id_fits size xs e few fits low; lens = λ e low. len_fits size xs e fits low }

pub batches_fit : (q : Queue) → BatchesFit (state_of q)
batches_fit q =
    let xs : List Completed = q.completed.items in record {
      under_way = all_fit q.ring.size (take q.batch xs) q.few (below_take q.ring.size q.batch xs q.in_table);
      begins = λ most. subst ElementsFit (sym (take-map element most (drop q.batch xs))) (all_fit q.ring.size (take most (drop q.batch xs)) q.few (below_take q.ring.size most (drop q.batch xs) (below_drop q.ring.size q.batch xs q.in_table)));
    }
