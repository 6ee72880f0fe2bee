use Rattle.std.proofs.Common.{◌≡◌, ◌++◌, All, map, string_bytes}
use Rattle.std.specs.Map.{keys_of}
use Rattle.bf_read.specs.declared.draft.PoolDraft.{PoolDraft}
use Rattle.serde_json.specs.View.{members_view}
use Rattle.bf_read.specs.Drafts.{IsPool}
use Rattle.bf_read.specs.Fields.{each_member, pool_in}
use Rattle.bf_read.proofs.FieldLemmas.{after}
use Rattle.bf_read.proofs.pools.pools_in.Given as goal

-- the names of the pools so far, and then those that are left, are all names; the pools so far, and then what is read of the rest, are what is read of all
abbrev pub invariant-loop-name : goal.invariant-loop-name
invariant-loop-name l = record {
  read : after l.pools.items (each_member (pool_in l.path) (members_view l.name-iterator)) ≡ each_member (pool_in l.path) (members_view l.members.entries);
  pools : All IsPool l.pools.items;
  names : map (λ (p : PoolDraft). p.name) l.pools.items ++ map string_bytes (keys_of l.name-iterator) ≡ map string_bytes (keys_of l.members.entries);
}
