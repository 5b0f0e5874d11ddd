use Rattle.std.proofs.Common.{ap, sym, ◌∙◌}
use Rattle.std.specs.Option.{option_copied}
use Rattle.fork_sound.specs.Reading.{ReadingValue}
use Rattle.fork_host.proofs.recalling.recall_read.Goals as goal

pub recall-requires : goal.recall-requires
recall-requires g c =
    let read = c.requires c.args.name c.in-Some.reading.now (sym c.get.ensures ∙ ap option_copied c.in-Some.is) in
    record {
      object = read.object;
      named = read.named;
      same_kind = sym (c.kind.ensures ∙ ap (λ (r : ReadingValue). r.kind) read.is);
      same_size = sym (c.size.ensures ∙ ap (λ (r : ReadingValue). r.size) read.is);
      whole = read.whole;
    }
