use Rattle.std.proofs.Common.{[], ◌++◌, ap, subst, sym, ◌∙◌}
use Rattle.std.specs.Io.KnownBytes.{Appends}
use Rattle.sha2.specs.Hashers.{Holds256}
use Rattle.sha2.specs.Sha256.{sha256}
use Rattle.state_text.proofs.WritingLemmas.{put_whole}
use Rattle.state_text.proofs.waiting.Waiting.end.Goals as goal

pub returns-clause-whole : goal.returns-clause-whole
returns-clause-whole g c first text under =
    let whole = put_whole first (g.W.Sink.contents c.args.writer.now) (g.W.Sink.contents c.write_out.new.writer) c.args.self c.write_out.new.self text under c.in_ok-write_out.ensures.puts c.in_ok-write_out.ensures.none in
    (whole.written, c.new.ensures ∙ c.finalize.ensures text whole.hashed)
