use Rattle.std.proofs.Common.{◌≡◌, ◌++◌}
use Rattle.std.specs.List.{flat_map}
use Rattle.std.specs.Slice.Iter.{chunks_rest, chunks_size}
use Rattle.image_file.specs.Format.{word_bytes}
use Rattle.image_file.proofs.writer.push_words.Given as goal

abbrev pub invariant-loop-chunk : goal.invariant-loop-chunk
invariant-loop-chunk l =
    goal.iterator-loop-chunk.can_next l.chunk-iterator
    × goal.iterator-loop-chunk.is_finite l.chunk-iterator
    × (chunks_size l.chunk-iterator ≡ 256)
    × (l.out.items ++ flat_map word_bytes (chunks_rest l.chunk-iterator)
    ≡ l.initial.out.items ++ flat_map word_bytes l.words)
