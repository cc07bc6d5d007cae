use Rattle.std.proofs.Common.{◌≡◌, ◌++◌, ◌+◌, ◌<◌, ℕ, List, suc, subst, sym, ap, ◌∙◌, arith}
use Rattle.std.proofs.lemmas.Bool.Decides.{nat_tests}
use Rattle.std.proofs.lemmas.List.{append-nil}
use Rattle.vub_report.specs.RecordText.{before_sector, written_text}
use Rattle.vub_report.proofs.RecordTextLemmas.{comma_before, none_before, written_more}
use Rattle.vub_report.proofs.text.put_written.Goals.{then-place-gt0+in_ok-put_text, else-place-gt0}
use Rattle.vub_report.proofs.text.put_written.Goals as goal

pub loop-place-preserved : goal.loop-place-preserved
loop-place-preserved c =
    let place : ℕ = c.loop-place.place in
    let bytes : List ℕ = c.args.bytes.now in
    let before : List ℕ = c.loop-place.out.items in
    let mid : List ℕ = c.if-place-gt0.out.items in
    let joint : mid ≡ before ++ before_sector place = elim c.if-place-gt0.branch [
      | then-place-gt0+in_ok-put_text w ↦
          let some : 0 < place = grind (arith, nat_tests) in
          ap (λ v. v.items) w.out-is ∙ w.in_ok-put_text.ensures ∙ ap (λ l. before ++ l) (sym (comma_before place some))
      | else-place-gt0 w ↦
          let none : place < 1 = grind (arith, nat_tests) in
          ap (λ v. v.items) w.out-is ∙ sym (append-nil before) ∙ ap (λ l. before ++ l) (sym (none_before place none))
    ] in
    let next : suc place ≡ place + 1 = omega arith in
    subst (λ (n : ℕ). c.put_bytes.new.out.items ≡ c.args.out.now.items ++ written_text n bytes) next
    (written_more place bytes c.args.out.now.items before mid c.put_bytes.new.out.items c.loop-place.invariant joint c.in_ok-put_bytes.ensures)
