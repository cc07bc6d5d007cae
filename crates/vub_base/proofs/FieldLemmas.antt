use Rattle.std.proofs.Common.{◌≡◌, ◌≤◌, ℕ, ◌+◌, ◌-◌, List, [], ◌++◌, length, take, drop, ap, ◌∙◌, arith, length-drop}
use Rattle.std.proofs.lemmas.List.{append-nil, drop_all, drop-drop}
use Rattle.std.proofs.lemmas.Slice.{between_to_end}
use Rattle.std.specs.List.{between}
use borrow.Rule.Slice.PartMut.{put_mid}
use Rattle.byteorder.specs.Endian.{little_bytes}
use Rattle.vub_base.specs.Fields.{with_field}

-- a number that is written at the front of the bytes from a place on
pub put_front : (w at x : ℕ) (bytes part : List ℕ) → at + w ≤ length bytes → part ≡ little_bytes w x ++ drop w (between at (length bytes) bytes)
    → put_mid at (length bytes - at) bytes part ≡ with_field w at x bytes
put_front w at x bytes part fits is =
    let past : drop (length bytes - at) (drop at bytes) ≡ [] = drop_all (length bytes - at) (drop at bytes) (omega (arith, length-drop at bytes)) in
    let rest : drop w (between at (length bytes) bytes) ≡ drop (at + w) bytes = ap (drop w) (between_to_end bytes at (length bytes) (omega arith)) ∙ drop-drop w at bytes in
    ap (λ l. take at bytes ++ l) (ap (λ l. part ++ l) past ∙ append-nil part ∙ is ∙ ap (λ l. little_bytes w x ++ l) rest)
