use Rattle.std.proofs.Common.{rules, ◌≡◌, ◌∙◌, Some}
use Rattle.vub_shared.specs.Bytes.{put}
use Rattle.vub_shared.specs.Watched.{bytes_in}
use Rattle.vub_inspect.proofs.MemoryLemmas.{zeros, laid}
use Rattle.vub_inspect.proofs.inspect.memory_with.Goals as goal

pub returns-clause-bytes : goal.returns-clause-bytes
returns-clause-bytes c =
    let before = c.in_ok-space.ensures.bytes ∙ zeros (bytes_in c.in_ok-memory.memory) c.in_ok-memory.ensures.zero in
    let stored : Some (bytes_in c.store_run.new.self) ≡ Some (put (bytes_in c.add_space.new.memory) c.in_ok-space.space.number 0 c.args.bytes.now) = search rules in
    laid (bytes_in c.add_space.new.memory) (bytes_in c.store_run.new.self) c.in_ok-space.space.number c.args.bytes.now before c.in_ok-space.ensures.number stored
