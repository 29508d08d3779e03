use Rattle.commands.proofs.Pieces.{on_stopped, said_by}
use Rattle.commands.proofs.writing.say.Goals as goal

pub returns : goal.returns
returns g c =
    let known = g.W.Write.contents in
    let cut = on_stopped known c.args.out.now c.write_text.new.out c.args.text.now c.write_text.result c.write_text.ensures.err in
    said_by known c.args.out.now c.write_text.new.out c.args.text.now c.write_text.result c.write_text.ensures.ok cut
