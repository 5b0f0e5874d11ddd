use Rattle.fork_model.proofs.DisclosureLemmas.{runs_agree_happened}
use Rattle.fork_model.proofs.Meetings.{runs_agree_met}
use Rattle.fork_model.proofs.disclosure.offers_disclose_what_they_hold.Goals as goal

pub returns-clause-replies : goal.returns-clause-replies
returns-clause-replies c = λ t old new steps replies old2 new2 steps2 replies2 run fine run2 fine2 agree same. (runs_agree_happened t old new steps replies old2 new2 steps2 replies2 run fine run2 fine2 agree same).0

pub returns-clause-worlds : goal.returns-clause-worlds
returns-clause-worlds c = λ t old new steps replies old2 new2 steps2 replies2 run fine run2 fine2 agree same. (runs_agree_happened t old new steps replies old2 new2 steps2 replies2 run fine run2 fine2 agree same).1

pub returns-clause-replies_met : goal.returns-clause-replies_met
returns-clause-replies_met c = λ t old new steps replies old2 new2 steps2 replies2 run fine run2 fine2 agree same. (runs_agree_met t old new steps replies old2 new2 steps2 replies2 run fine run2 fine2 agree same).0

pub returns-clause-views_met : goal.returns-clause-views_met
returns-clause-views_met c = λ t old new steps replies old2 new2 steps2 replies2 run fine run2 fine2 agree same. (runs_agree_met t old new steps replies old2 new2 steps2 replies2 run fine run2 fine2 agree same).1

pub returns-clause-worlds_met : goal.returns-clause-worlds_met
returns-clause-worlds_met c = λ t old new steps replies old2 new2 steps2 replies2 run fine run2 fine2 agree same offers. record {
  views = (runs_agree_met t old new steps replies old2 new2 steps2 replies2 run fine run2 fine2 agree same).1;
  offers = offers;
}
