-- What is sent back can be written.
use Rattle.std.specs.Prelude.{◌≡◌, ⊤}
use Rattle.vub_session.specs.declared.handled.Handled.{Handled}
use Rattle.vub_session.specs.declared.handled.Handled.TheVariants as handled
use Rattle.vub_wire.specs.Replies.{kind_of}
use Rattle.vub_wire.specs.Requests.{kind_at}

-- a reply is of the kind that its request has
abbrev pub IsSent : Handled → Type 0
IsSent (handled.Reply r) = kind_at r.request ≡ kind_of r.body
IsSent h = ⊤
