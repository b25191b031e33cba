-- Lines with numbers in brackets: the written text is the defined one.
use Rattle.std.proofs.Common.{◌≡◌, ℕ, List, ◌++◌, append_assoc}
use Rattle.std.specs.Prelude.{codes}

-- a line that begins with a and ends in g, with bracketed numbers whose closing bracket is b
module _ (a b g : List ℕ) where
  pub two_numbers : (d c m e f : List ℕ) →
      a ++ (d ++ (b ++ (c ++ (m ++ (e ++ (b ++ (f ++ g))))))) ≡ a ++ (d ++ b ++ c ++ (m ++ (e ++ b)) ++ f ++ g)
  two_numbers d c m e f = simp append_assoc

  pub three_numbers : (d c m e f n h i : List ℕ) →
      a ++ (d ++ (b ++ (c ++ (m ++ (e ++ (b ++ (f ++ (n ++ (h ++ (b ++ (i ++ g)))))))))))
      ≡ a ++ (d ++ b ++ c ++ (m ++ (e ++ b)) ++ f ++ (n ++ (h ++ b)) ++ i ++ g)
  three_numbers d c m e f n h i = simp append_assoc

-- the line with which a path acquires its lock alone, after its test
pub alone_line : (k root take : List ℕ) →
    codes "  if (AL_RARE(h[" ++ k ++ codes "] == NULL" ++ root ++ codes ")) {" ++ take ++ codes " }\n"
    ≡ codes "  " ++ (codes "if (AL_RARE(" ++ (codes "h[" ++ k ++ codes "]") ++ codes " == NULL" ++ root ++ codes ")) {" ++ take ++ codes " }") ++ codes "\n"
alone_line k root take = simp append_assoc

-- the loop over a pool's members, in its pieces
pub pool_line : (a n b h d q r name i last s called o z : List ℕ) →
    ((a ++ (n ++ b)) ++ (h ++ (d ++ ((q ++ r) ++ (name ++ i)))) ++ last) ++ (s ++ (called ++ ((o ++ h) ++ (d ++ (q ++ z)))))
    ≡ a ++ n ++ b ++ (h ++ d ++ q) ++ r ++ name ++ i ++ last ++ s ++ called ++ o ++ (h ++ d ++ q) ++ z
pool_line a n b h d q r name i last s called o z = simp append_assoc
