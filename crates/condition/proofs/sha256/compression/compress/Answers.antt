use Rattle.std.proofs.Common.{◌≡◌, [], ◌∷◌, refl, sym, ◌∙◌, ap, rules}
use Rattle.std.specs.List.{fold, zip}
use Rattle.std.proofs.lemmas.Fn.{fold_over}
use Rattle.std.proofs.lemmas.List.Sums.{fold-append}
use Rattle.std.proofs.lemmas.Iterator.{YieldsList-from_slice, YieldsList-from_zip, zips}
use Rattle.std.proofs.iter.Yields.{fronts}
use Rattle.condition.specs.Sha256.{constants, initial}
use Rattle.condition.proofs.Steps.{pair_round, rounds-fold}
use Rattle.condition.proofs.sha256.compression.compress.Goals as goal

pub returns : goal.returns
returns c =
    let w = c.args.w.now in
    let after = fold pair_round initial in
    let chain = YieldsList-from_zip {s = c.zip.result} (YieldsList-from_slice constants (search rules)) (YieldsList-from_slice w (search rules)) in
    let folded : c.fold.result ≡ after (zip constants w) = fold_over (zips fronts fronts) (λ p. (p.0.now, p.1.now)) _ (λ ys s. s ≡ after ys) _
    (λ ys s p t f' so_far call. ((let t-is : t ≡ pair_round s (p.0.now, p.1.now) = search rules in t-is ∙ ap (λ x. pair_round x (p.0.now, p.1.now)) so_far ∙ sym (fold-append pair_round initial ys ((p.0.now, p.1.now) ∷ []))), refl))
    c.zip.result _ _ _ chain.runs c.start.ensures c.fold.ensures.ran in
    folded ∙ rounds-fold w initial (search rules)
