use Rattle.std.proofs.Common.{ℕ, subst}
use Rattle.std.specs.Prelude.{Option}
use Rattle.vub_driver.specs.Shown.{ShowsNext}
use Rattle.vub_guest.specs.GuestState.{ring_in, last_used_in}
use Rattle.vub_guest.proofs.guest.Guest.collect.Goals as goal

pub returns-in-Ok-None-clause-shown : goal.returns-in-Ok-None-clause-shown
returns-in-Ok-None-clause-shown g c m told =
    subst (λ (shown : Option ℕ). ShowsNext shown (ring_in c.args.self.now) m (last_used_in c.args.self.now)) c.in-Ok-None.field-0-is (c.in-Ok-None.ensures.loaded m told)

pub returns-in-Ok-Some-clause-shown : goal.returns-in-Ok-Some-clause-shown
returns-in-Ok-Some-clause-shown g c m told =
    subst (λ (shown : Option ℕ). ShowsNext shown (ring_in c.args.self.now) m (last_used_in c.args.self.now)) c.in-Ok-Some.field-0-is (c.in-Ok-Some.ensures.loaded m told)
