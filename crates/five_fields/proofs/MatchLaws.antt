-- Laws of matching: a header matches an entry field by field, and it matches some entry of a rule where its five numbers satisfy the rule.
use mathlib.Core.Path.{◌≡◌, refl, sym, ap, ap₂, ◌∙◌}
use mathlib.Core.List.{List, [], ◌∷◌, ◌++◌, map, flat_map}
use mathlib.Core.Bool.{Bool, true, false, ◌&&◌, ◌||◌, and_comm}
use Prim.Native.Nat.{ℕ, ◌+◌, ◌-◌, ◌^◌, ◌≤◌, ◌<◌}
use native.Mathlib.Omega.{arith}
use lib.Bits.{bit_and}
use lib.Dec.{eqb, leb, ltb}
use lib.Pow.{pow_pos}
use borrow.Author.Tests.{leb-true, ltb-true, le-leb, lt-ltb}
use Rattle.words.proofs.Tests.{same_test, and-true, true-and, eqb_yes, yes_eqb, split as by}
use Rattle.rules.specs.Rule.{Rule}
use Rattle.rules.specs.Rules.{choose, matches, first, answer, no_match, Valid}
use Rattle.rules.specs.Lists.{All}
use Rattle.rules.proofs.EntryLaws.{all_after, all_any}
use Rattle.rules.proofs.RuleLaws.{first-append}
use Rattle.ranges.specs.Prefixes.{Prefix, prefix, PrefixIn, care_word, value_word, prefix_matches, matching, in_range}
use Rattle.ranges.specs.Ranges.{range_prefixes}
use Rattle.ranges.proofs.PrefixLaws.{care-fits, prefix-matches-exactly}
use Rattle.ranges.proofs.Theorems.{prefix-valid, range-fit, range-covers}
use Rattle.five_fields.specs.FiveFieldRule.{FiveFieldRule}
use Rattle.five_numbers.specs.Numbers.{Numbers}
use Rattle.five_numbers.specs.Fields.{address_bits, port_bits, protocol_bits, header_bits, joined, header_of}
use Rattle.five_fields.specs.FiveFieldRules.{any_protocol, in_prefix, of_protocol, satisfies, decides}
use Rattle.five_fields.specs.Expansion.{address_prefix, protocol_by, protocol_prefix, entry, source_prefixes, destination_prefixes, expansion, expanded}
use Rattle.five_numbers.proofs.FieldLaws.{Within, Inside, within-and, joined-and, joined-eqb, joined-lt}
use Rattle.five_fields.proofs.ListLaws.{all-flat}
use Rattle.five_fields.proofs.CheckLaws.{PortRange, Good, any-prefix, one-prefix, protocol-prefix}

-- ---- an entry

module _ (r : FiveFieldRule) (g : Good r) (s d : Prefix) (ps : PrefixIn port_bits s) (pd : PrefixIn port_bits d) where
  cares-within : Within (care_word address_bits (address_prefix r.source r.source_length)) (care_word address_bits (address_prefix r.destination r.destination_length)) (care_word port_bits s) (care_word port_bits d) (care_word protocol_bits (protocol_prefix r.protocol))
  cares-within =
      record {
        source = care-fits address_bits _;
        destination = care-fits address_bits _;
        source_port = care-fits port_bits s;
        destination_port = care-fits port_bits d;
        protocol = care-fits protocol_bits _;
      }

  values-within : Within (value_word (address_prefix r.source r.source_length)) (value_word (address_prefix r.destination r.destination_length)) (value_word s) (value_word d) (value_word (protocol_prefix r.protocol))
  values-within =
      record {
        source = g.source.within;
        destination = g.destination.within;
        source_port = ps.within;
        destination_port = pd.within;
        protocol = (protocol-prefix r.protocol g.protocol).within;
      }

  -- it matches where each of its five prefixes does
  pub entry-matches : (n : Numbers) → Inside n
      → matches (entry r s d) (header_of n)
      ≡ (prefix_matches protocol_bits (protocol_prefix r.protocol) n.protocol
      && (prefix_matches port_bits d n.destination_port
      && (prefix_matches port_bits s n.source_port
      && (prefix_matches address_bits (address_prefix r.destination r.destination_length) n.destination
      && prefix_matches address_bits (address_prefix r.source r.source_length) n.source))))
  unfolding entry matches prefix_matches
  entry-matches n w =
      ap (λ (x : ℕ). eqb x (entry r s d).value) (joined-and _ _ _ _ _ _ _ _ _ _ w cares-within)
      ∙ joined-eqb _ _ _ _ _ _ _ _ _ _ (within-and _ _ _ _ _ _ _ _ _ _ w cares-within) values-within

  -- and it is a rule of 104 places
  pub entry-valid : Valid header_bits (entry r s d)
  unfolding entry
  entry-valid =
      record {
        within = joined-and _ _ _ _ _ _ _ _ _ _ values-within cares-within ∙ five (under address_bits _ g.source) (under address_bits _ g.destination) (under port_bits s ps) (under port_bits d pd) (under protocol_bits _ (protocol-prefix r.protocol g.protocol));
        fits = joined-lt _ _ _ _ _ cares-within;
        decides = g.decides;
      }
    where
      under : (b : ℕ) (p : Prefix) → PrefixIn b p → bit_and (value_word p) (care_word b p) ≡ value_word p
      under b p v = (prefix-valid b 0 p v (omega arith)).within

      five : {a a' b b' c c' d d' e e' : ℕ} → a ≡ a' → b ≡ b' → c ≡ c' → d ≡ d' → e ≡ e' → joined a b c d e ≡ joined a' b' c' d' e'
      five p q x y z = cc

-- ---- some entry of a list matches

abbrev any : List Rule → (h : ℕ) → Bool
any [] h = false
any (r ∷ rs) h = matches r h || any rs h

abbrev has : List Prefix → (n : ℕ) → Bool
has [] n = false
has (p ∷ ps) n = prefix_matches port_bits p n || has ps n

any_append : (xs ys : List Rule) (h : ℕ) → any (xs ++ ys) h ≡ (any xs h || any ys h)
any_append [] ys h = refl
any_append (x ∷ xs) ys h = ap (λ (t : Bool). matches x h || t) (any_append xs ys h) ∙ or_left (matches x h) (any xs h) (any ys h)
  where
    or_left : (a b c : Bool) → (a || (b || c)) ≡ ((a || b) || c)
    or_left true b c = refl
    or_left false b c = refl

-- of rules that all decide alike, the first that matches decides so
any-first : (k : ℕ) (rs : List Rule) (h x : ℕ) → All (λ (r : Rule). r.decision ≡ k) rs → first rs h x ≡ choose (any rs h) k x
unfolding first
any-first k [] h x a = refl
any-first k (r ∷ rs) h x a = ap₂ (λ (m y : ℕ). choose (matches r h) m y) a.0 (any-first k rs h x a.1) ∙ either (matches r h) (any rs h)
  where
    either : (a b : Bool) → choose a k (choose b k x) ≡ choose (a || b) k x
    either true b = refl
    either false b = refl

-- ---- tests side by side

-- two tests of a row that differ at one place
inner : (p d e x : Bool) → ((p && (d && x)) || (p && (e && x))) ≡ (p && ((d || e) && x))
inner true true true true = refl
inner true true true false = refl
inner true true false true = refl
inner true true false false = refl
inner true false e x = refl
inner false d e x = refl

none : (p x : Bool) → false ≡ (p && (false && x))
none true x = refl
none false x = refl

swap : (x y z : Bool) → ((x && y) && z) ≡ (y && (x && z))
swap true y z = refl
swap false true z = refl
swap false false z = refl

turned : (a b s d p : Bool) → (p && (d && (s && (b && a)))) ≡ (a && (b && (s && (d && p))))
turned a b s d p =
    and_comm p (d && (s && (b && a))) ∙ swap d (s && (b && a)) p ∙ swap s (b && a) (d && p) ∙ swap b a (s && (d && p))

-- ---- the entries of a rule

module _ (r : FiveFieldRule) (g : Good r) (n : Numbers) (w : Inside n) where
  -- the tests of the two addresses, and that of the protocol
  abbrev addresses : Bool
  addresses = prefix_matches address_bits (address_prefix r.destination r.destination_length) n.destination && prefix_matches address_bits (address_prefix r.source r.source_length) n.source

  abbrev protocols : Bool
  protocols = prefix_matches protocol_bits (protocol_prefix r.protocol) n.protocol

  -- with one source prefix: some destination prefix matches
  any-inside : (s : Prefix) → PrefixIn port_bits s → (ds : List Prefix) → All (PrefixIn port_bits) ds
      → any (map (entry r s) ds) (header_of n) ≡ (protocols && (has ds n.destination_port && (prefix_matches port_bits s n.source_port && addresses)))
  any-inside s ps [] a = none protocols (prefix_matches port_bits s n.source_port && addresses)
  any-inside s ps (d ∷ ds) a =
      ap₂ (λ (x y : Bool). x || y) (entry-matches r g s d ps a.0 n w) (any-inside s ps ds a.1)
      ∙ inner protocols (prefix_matches port_bits d n.destination_port) (has ds n.destination_port) (prefix_matches port_bits s n.source_port && addresses)

  -- with all of them: some source prefix and some destination prefix match
  any-pairs : (ss ds : List Prefix) → All (PrefixIn port_bits) ss → All (PrefixIn port_bits) ds
      → any (flat_map (λ (s : Prefix). map (entry r s) ds) ss) (header_of n) ≡ (protocols && (has ds n.destination_port && (has ss n.source_port && addresses)))
  unfolding flat_map
  any-pairs [] ds a b = nothing protocols (has ds n.destination_port)
    where
      nothing : (p d : Bool) → false ≡ (p && (d && false))
      nothing true true = refl
      nothing true false = refl
      nothing false d = refl
  any-pairs (s ∷ ss) ds a b =
      any_append (map (entry r s) ds) _ (header_of n)
      ∙ ap₂ (λ (x y : Bool). x || y) (any-inside s a.0 ds b) (any-pairs ss ds a.1 b)
      ∙ outer protocols (has ds n.destination_port) (prefix_matches port_bits s n.source_port) (has ss n.source_port) addresses
    where
      outer : (p d s t x : Bool) → ((p && (d && (s && x))) || (p && (d && (t && x)))) ≡ (p && (d && ((s || t) && x)))
      outer true d s t x = inner d s t x
      outer false d s t x = refl

-- ---- each field, over numbers

-- an address: from the prefix's first number on, as many as the stars leave open
address-range : (a k m : ℕ) → PrefixIn address_bits (address_prefix a k) → m < 2 ^ address_bits → prefix_matches address_bits (address_prefix a k) m ≡ in_prefix a k m
address-range a k m p h =
    prefix-matches-exactly address_bits m (address_prefix a k) p h
    ∙ ap (λ (t : Bool). leb a m && t)
    (same_test (ltb m (a + 2 ^ (address_bits - k))) (leb m (a + (2 ^ (address_bits - k) - 1)))
    (λ e. let l : m < a + 2 ^ (address_bits - k) = ltb-true _ _ e in le-leb m (a + (2 ^ (address_bits - k) - 1)) (omega arith))
    (λ e. let l : m ≤ a + (2 ^ (address_bits - k) - 1) = leb-true _ _ e in let z : 0 < 2 ^ (address_bits - k) = pow_pos (address_bits - k) in lt-ltb m (a + 2 ^ (address_bits - k)) (omega arith)))

protocol-test : (p m : ℕ) → p ≤ any_protocol → m < 2 ^ protocol_bits → prefix_matches protocol_bits (protocol_prefix p) m ≡ of_protocol p m
protocol-test p m h l =
    by (eqb p any_protocol)
    (λ e. ap matched e ∙ prefix-matches-exactly protocol_bits m (prefix protocol_bits 0) any-prefix l
    ∙ true-and (le-leb 0 m (omega arith)) (lt-ltb m (0 + 2 ^ protocol_bits) (omega arith)) ∙ sym (ap (λ (t : Bool). t || eqb m p) e))
    (λ e. ap matched e ∙ prefix-matches-exactly protocol_bits m (prefix 0 p) (one-prefix p h e) l
    ∙ one ∙ sym (ap (λ (t : Bool). t || eqb m p) e))
  where
    matched : Bool → Bool
    matched t = prefix_matches protocol_bits (protocol_by t p) m

    one : (leb p m && ltb m (p + 2 ^ 0)) ≡ eqb m p
    one =
        same_test (leb p m && ltb m (p + 2 ^ 0)) (eqb m p)
        (λ e. let t = and-true (leb p m) (ltb m (p + 2 ^ 0)) e in yes_eqb m p (omega (arith, leb-true p m t.0, ltb-true m (p + 2 ^ 0) t.1)))
        (λ e. let q : m ≡ p = eqb_yes m p e in true-and (le-leb p m (omega arith)) (lt-ltb m (p + 2 ^ 0) (omega arith)))

-- a port: some prefix of the range matches where the port lies in it
has-matching : (ps : List Prefix) (m : ℕ) → has ps m ≡ ltb 0 (matching port_bits ps m)
unfolding matching
has-matching [] m = refl
has-matching (p ∷ ps) m = ap (λ (t : Bool). prefix_matches port_bits p m || t) (has-matching ps m) ∙ some (prefix_matches port_bits p m) (matching port_bits ps m)
  where
    some : (t : Bool) (k : ℕ) → (t || ltb 0 k) ≡ ltb 0 (choose t 1 0 + k)
    some true k = sym (lt-ltb 0 (1 + k) (omega arith))
    some false k = ap (ltb 0) (let e : k ≡ 0 + k = omega arith in e)

port-test : (low high m : ℕ) → PortRange low high → m < 2 ^ port_bits → has (range_prefixes port_bits low high) m ≡ in_range low high m
port-test low high m p h = has-matching (range_prefixes port_bits low high) m ∙ range-covers port_bits low high p.within m h

-- ---- a rule, and a list of rules

module _ (r : FiveFieldRule) (g : Good r) where
  source-fit : All (PrefixIn port_bits) (source_prefixes r)
  source-fit = range-fit port_bits r.source_low r.source_high g.source_ports.within

  destination-fit : All (PrefixIn port_bits) (destination_prefixes r)
  destination-fit = range-fit port_bits r.destination_low r.destination_high g.destination_ports.within

  any-expansion : (n : Numbers) → Inside n → any (expansion r) (header_of n) ≡ satisfies r n
  unfolding expansion satisfies
  any-expansion n w =
      any-pairs r g n w (source_prefixes r) (destination_prefixes r) source-fit destination-fit
      ∙ turned (prefix_matches address_bits (address_prefix r.source r.source_length) n.source) (prefix_matches address_bits (address_prefix r.destination r.destination_length) n.destination) (has (source_prefixes r) n.source_port) (has (destination_prefixes r) n.destination_port) (prefix_matches protocol_bits (protocol_prefix r.protocol) n.protocol)
      ∙ five (address-range _ _ _ g.source w.source) (address-range _ _ _ g.destination w.destination) (port-test _ _ _ g.source_ports w.source_port) (port-test _ _ _ g.destination_ports w.destination_port) (protocol-test _ _ g.protocol w.protocol)
    where
      five : {a a' b b' c c' d d' e e' : Bool} → a ≡ a' → b ≡ b' → c ≡ c' → d ≡ d' → e ≡ e' → (a && (b && (c && (d && e)))) ≡ (a' && (b' && (c' && (d' && e'))))
      five p q x y z = cc

  same-decision : All (λ (e : Rule). e.decision ≡ r.decision) (expansion r)
  unfolding expansion entry
  same-decision =
      all-flat _ (λ (s : Prefix). Unit {0}) _ (λ s u. all_after (entry r s) (λ (d : Prefix). Unit {0}) _ (λ d v. refl) (destination_prefixes r) (all_any _ (λ d. tt) (destination_prefixes r)))
      (source_prefixes r) (all_any _ (λ s. tt) (source_prefixes r))

  -- the entries of a rule decide for five numbers where these satisfy it
  pub expansion-first : (n : Numbers) → Inside n → (x : ℕ) → first (expansion r) (header_of n) x ≡ choose (satisfies r n) r.decision x
  expansion-first n w x = any-first r.decision (expansion r) (header_of n) x same-decision ∙ ap (λ (t : Bool). choose t r.decision x) (any-expansion n w)

  pub expansion-valid : All (Valid header_bits) (expansion r)
  unfolding expansion
  expansion-valid =
      all-flat _ (PrefixIn port_bits) _ (λ s ps. all_after (entry r s) (PrefixIn port_bits) _ (λ d pd. entry-valid r g s d ps pd) (destination_prefixes r) destination-fit) (source_prefixes r) source-fit

-- five numbers get from the ternary list what the five-field rules decide
pub expanded-first : (rs : List FiveFieldRule) → All Good rs → (n : Numbers) → Inside n → answer (expanded rs) (header_of n) ≡ decides rs n
unfolding expanded flat_map decides first
expanded-first [] a n w = refl
expanded-first (r ∷ rs) a n w =
    first-append (expansion r) (flat_map expansion rs) (header_of n) no_match
    ∙ expansion-first r a.0 n w _
    ∙ ap (choose (satisfies r n) r.decision) (expanded-first rs a.1 n w)

pub expanded-all : (rs : List FiveFieldRule) → All Good rs → All (Valid header_bits) (expanded rs)
unfolding expanded
expanded-all rs a = all-flat expansion Good (Valid header_bits) (λ r g. expansion-valid r g) rs a
