use Rattle.std.proofs.Common.{◌≡◌, ◌∙◌, ap, sym, get_or, rules}
use Rattle.std.proofs.lemmas.Option.{IfSome_then}
use Rattle.number_links.specs.Known.{known}
use Rattle.number_links.specs.Records.{told}
use Rattle.number_links.proofs.RecordLemmas.{known_told}
use Rattle.number_links.proofs.links.Links.of.Goals as goal

pub returns-clause-some : goal.returns-clause-some
returns-clause-some c =
    let renewed = c.self.inside.renewed.items in
    let pool = c.self.inside.pool.items in
    let begins = c.self.inside.begins.items in
    let begin : c.get-begin.result ≡ get_or begins c.args.n 4294967295 = search rules in
    let read : told c.deref-2.result.now c.deref-3.result.now c.get-begin.result ≡ told renewed pool (get_or begins c.args.n 4294967295) = search rules in
    IfSome_then c.read.result c.read.ensures.some (λ to is. ap (λ links. known links c.args.n) (sym c.self.view_is) ∙ known_told renewed pool begins c.args.n ∙ sym read ∙ is)
