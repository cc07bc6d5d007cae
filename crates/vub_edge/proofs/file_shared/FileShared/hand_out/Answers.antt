use Rattle.std.proofs.Common.{rules, ◌≡◌, ◌++◌, ◌∷◌, [], length}
use Rattle.vub_edge.specs.FileShareds.{spaces_of}
use Rattle.vub_edge.proofs.SpaceLemmas.{pushed, named}
use Rattle.vub_edge.proofs.file_shared.FileShared.hand_out.Goals as goal

pub returns-clause-made : goal.returns-clause-made
returns-clause-made g c =
    let more : c.push.new.self.items ≡ spaces_of c.args.self.now ++ (c.args.opened ∷ []) = search rules in
    let last : c.len-number.result ≡ length (spaces_of c.args.self.now) = search rules in
    pushed (spaces_of c.args.self.now) c.push.new.self.items c.args.opened c.len-number.result more last

pub returns-clause-named : goal.returns-clause-named
returns-clause-named g c =
    let more : c.push.new.self.items ≡ spaces_of c.args.self.now ++ (c.args.opened ∷ []) = search rules in
    let last : c.len-number.result ≡ length (spaces_of c.args.self.now) = search rules in
    named (spaces_of c.args.self.now) c.push.new.self.items c.args.opened c.len-number.result more last
