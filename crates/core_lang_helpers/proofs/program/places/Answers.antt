use Rattle.core_lang.specs.Theory.Items.{zip_same}
use Rattle.core_lang_helpers.proofs.Clones.{same_arrays, same_pools}
use Rattle.core_lang_helpers.proofs.program.places.Goals as goal

pub returns-clause-same : goal.returns-clause-same
returns-clause-same c =
    let shape = c.args.shape.now in
    record {
      arrays = same_arrays shape.arrays.items c.in_ok-arrays.arrays.items c.in_ok-arrays.ensures.cases.0;
      pools = same_pools shape.pools.items c.in_ok-pools.pools.items c.in_ok-pools.ensures.cases.0;
      objects = zip_same _ (λ x y e. e) shape.objects.items c.in_ok-objects.objects.items c.in_ok-objects.ensures.cases.0;
      finals = zip_same _ (λ x y e. e) shape.finals.items c.in_ok-finals.finals.items c.in_ok-finals.ensures.cases.0;
    }
