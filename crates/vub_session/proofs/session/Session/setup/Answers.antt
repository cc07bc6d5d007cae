use Rattle.vub_session.proofs.session.Session.setup.Goals as goal

pub returns-clause-lies : goal.returns-clause-lies
returns-clause-lies c = rw (← c.self.view_is) c.setup.ensures.lies
