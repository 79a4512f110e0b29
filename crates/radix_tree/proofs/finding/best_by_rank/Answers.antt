use Rattle.radix_tree.proofs.Indexed.{AreLeft, all_left, rank_hit, rank_miss, ranks_kept, no_rank, rooms_known}
use Rattle.radix_tree.proofs.Words.{◌∙◌, arith, refl, sym, subst}
use Rattle.radix_tree.proofs.finding.best_by_rank.Goals as goal

pub loop-rank-init : goal.loop-rank-init
loop-rank-init g c = record {
  within = omega arith;
  are = λ w. all_left w c.requires.indexed c.args.counts.now c.args.address c.ranks-ranks.result c.requires.counted c.ranks-ranks.ensures;
  reads = record { turn = refl; rises = omega arith; bound = omega arith };
}

pub find-requires-clause-known : goal.find-requires-clause-known
find-requires-clause-known g c = rooms_known c.requires.indexed

pub returns-in-Some-find : goal.returns-in-Some-find
returns-in-Some-find g c =
    let was = c.loop-rank.invariant in
    let greatest = c.in-Some.ensures in
    record {
      best = λ w. rank_hit w c.requires.indexed c.args.address c.loop-rank.left c.loop-rank.ranks was.within (was.are w) greatest.0 greatest.2
          c.masked.ensures.number c.in-Some-find.ensures.found;
      visits = record {
        turn = c.find.ensures.visits.turn ∙ was.reads.turn;
        rises = omega (arith, c.find.ensures.visits.rises, was.reads.rises);
        bound = omega (arith, c.find.ensures.visits.bound, was.reads.bound, was.within, greatest.0);
      };
    }

pub loop-rank-preserved : goal.loop-rank-preserved
loop-rank-preserved g c =
    let was = c.loop-rank.invariant in
    let greatest = c.in-Some.ensures in
    let below = c.number-left.ensures.number in
    record {
      within = omega (arith, was.within, greatest.0, below);
      are = λ w. ranks_kept w c.requires.indexed c.args.address c.number-left.result c.loop-rank.ranks (omega (arith, was.within, greatest.0, below))
          (subst (λ n. AreLeft w c.args.address n c.loop-rank.ranks) (sym below)
          (rank_miss w c.requires.indexed c.args.address c.loop-rank.left c.loop-rank.ranks was.within (was.are w) greatest.2 c.masked.ensures.number c.requires.all
          c.in_default-find.ensures.found)) c.ranks_left-ranks.result c.requires.all c.ranks_left-ranks.ensures.kept;
      reads = record {
        turn = c.ranks_left-ranks.ensures.visits.turn ∙ c.find.ensures.visits.turn ∙ was.reads.turn;
        rises = omega (arith, c.ranks_left-ranks.ensures.visits.rises, c.find.ensures.visits.rises, was.reads.rises);
        bound = omega (arith, c.ranks_left-ranks.ensures.visits.bound, c.find.ensures.visits.bound, was.reads.bound, was.within, greatest.0, below);
      };
    }

pub returns-clause-best : goal.returns-clause-best
returns-clause-best g c w = no_rank w c.requires.indexed c.args.address c.loop-rank.left c.loop-rank.ranks c.loop-rank.invariant.within (c.loop-rank.invariant.are w)
    c.in_default.ensures
